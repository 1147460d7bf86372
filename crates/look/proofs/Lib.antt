-- The root of the laws.
pub mod Agreement
pub mod Values
pub mod Looks
pub mod Forcing
pub mod Clauses
pub mod Lists
pub mod Low
pub mod States
pub mod Parts
