-- The root of the definitions.
pub mod Check
pub mod Told
pub mod Promise
