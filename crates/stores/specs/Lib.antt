-- The root of the definitions.
pub mod Over
pub mod Lies
pub mod Lists
