-- The root of the theorems.
pub mod Call
pub mod Sequencers
pub mod Plain
