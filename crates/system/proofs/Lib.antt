-- The root of the laws and theorems.
pub mod Clauses
pub mod Lists
pub mod Refusals
pub mod Sentences
pub mod Plain
