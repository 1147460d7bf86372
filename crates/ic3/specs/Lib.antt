-- The root of the definitions, in the order in which to read them. No definition leans on the last four.
pub mod Model
pub mod Search
pub mod Demands
pub mod Theorems
pub mod Answers
pub mod Shape
pub mod Canonical
pub mod Exact
pub mod Shortened
