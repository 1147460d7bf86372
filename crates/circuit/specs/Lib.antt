-- The root of the definitions, in the order in which to read them.
pub mod Circuit
pub mod Runs
pub mod Loops
pub mod Refusals
pub mod Import
pub mod Agree
