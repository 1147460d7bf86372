-- The root of the definitions.
pub mod Kind
pub mod Random
