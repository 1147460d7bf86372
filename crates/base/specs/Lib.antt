-- The root of the definitions.
pub mod Refusals
pub mod Numbers
