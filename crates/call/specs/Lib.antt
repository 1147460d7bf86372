-- The root of the definitions.
pub mod Call
pub mod Sequencers
pub mod Promise
pub mod Plain
