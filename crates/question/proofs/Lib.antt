-- The root of the laws.
pub mod More
pub mod Resolution
pub mod Pairs
pub mod Fulfilled
pub mod Solving
pub mod Wide
pub mod Along
pub mod Walk
pub mod Rest
pub mod Ranges
pub mod Blocks
pub mod Conditions
pub mod Model
pub mod Listed
