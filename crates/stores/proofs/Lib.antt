-- The root of the laws.
pub mod Over
pub mod Lying
pub mod Clearing
