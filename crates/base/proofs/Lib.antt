-- The root of the laws.
pub mod Tests
pub mod Lists
pub mod Refusals
pub mod Named
