-- The root of the definitions.
pub mod Into
pub mod Promise
