-- The root of the definitions.
pub mod System
pub mod Plain
pub mod Lent
