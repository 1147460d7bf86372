-- The root of the definitions. File, Promise and Told say what `read` promises; Inner says what the private functions need and give.
pub mod File
pub mod Promise
pub mod Told
pub mod Inner
