-- The root of the definitions.
pub mod Check
