-- The root of the definitions, in the order in which to read them. Numbers, Text and Promise say what both readers promise; Table and Inner say what the
-- private functions need and give.
pub mod Numbers
pub mod Text
pub mod Promise
pub mod Table
pub mod Inner
