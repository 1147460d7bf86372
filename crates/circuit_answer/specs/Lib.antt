-- The root of the definitions.
pub mod Answer
pub mod Promise
