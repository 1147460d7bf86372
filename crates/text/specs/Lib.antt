-- The root of the definitions.
pub mod Lines
pub mod Places
pub mod Writing
