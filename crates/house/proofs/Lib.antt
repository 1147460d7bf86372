-- The root of the laws.
pub mod Lying
pub mod Entering
pub mod Limits
pub mod Taking
pub mod Reading
pub mod Cut
pub mod Same
