-- The root of the laws and theorems, in the order in which they lean on one another. Main has the theorems for callers.
pub mod Lists
pub mod Values
pub mod Loops
pub mod Rounds
pub mod Refusals
pub mod Clauses
pub mod Parts
pub mod Import
pub mod Sentences
pub mod Own
pub mod Models
pub mod Runs
pub mod Main
pub mod Starts
pub mod FirstEdition
pub mod Examples
