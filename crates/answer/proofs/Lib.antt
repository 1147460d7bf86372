-- The root of the laws.
pub mod Lines
pub mod Frames
pub mod Outcomes
pub mod Short
pub mod Limits
pub mod Meaning
pub mod Example
pub mod Reading
