-- The root of the laws.
pub mod Rising
pub mod Lists
pub mod Filling
pub mod Telling
pub mod Same
