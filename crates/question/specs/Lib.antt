-- The root of the definitions.
pub mod Question
pub mod Asked
pub mod Reason
pub mod Engine
pub mod Stored
