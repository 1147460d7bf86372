-- The root of the definitions, in the order in which to read them.
pub mod Bit
pub mod Ends
pub mod Word
