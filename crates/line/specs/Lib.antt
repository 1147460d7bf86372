-- The root of the definitions. Text and Says say what `parse` promises, Told in which terms, and Inner what the private functions need and give.
pub mod Text
pub mod Says
pub mod Told
pub mod Inner
