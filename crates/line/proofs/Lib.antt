-- The root of the laws.
pub mod Digits
pub mod Placing
pub mod Frames
pub mod Malformed
pub mod Numbers
pub mod Judging
pub mod Saying
pub mod Same
