-- The root of the definitions.
pub mod Excluded
pub mod Condition
pub mod Reason
pub mod Look
