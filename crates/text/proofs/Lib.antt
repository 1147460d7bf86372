-- The root of the laws.
pub mod Lines
pub mod Cut
pub mod Laying
