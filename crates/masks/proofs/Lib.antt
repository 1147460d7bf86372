-- The root of the laws, in the order in which they build on one another.
pub mod Bits
pub mod Operations
pub mod OneBit
pub mod Halves
pub mod Order
pub mod Words
pub mod Ends
pub mod Count
pub mod Somewhere
