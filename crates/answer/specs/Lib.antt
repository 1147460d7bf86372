-- The root of the definitions.
pub mod Output
pub mod Answer
pub mod Promise
pub mod Example
