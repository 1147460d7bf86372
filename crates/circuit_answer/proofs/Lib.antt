-- The root of the laws.
pub mod Limits
pub mod Meaning
pub mod Reading
