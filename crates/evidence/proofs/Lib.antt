-- The root of the laws and theorems.
pub mod Each
pub mod Excluding
pub mod Paths
pub mod Judging
pub mod Cases
pub mod Same
