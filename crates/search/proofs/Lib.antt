-- The root of the theorems.
pub mod Windows
pub mod Duties
pub mod Keeping
pub mod Walks
pub mod Rounds
pub mod Asked
pub mod Raising
pub mod Taken
pub mod Turns
pub mod Opening
pub mod Fronts
pub mod Closing
pub mod Promising
