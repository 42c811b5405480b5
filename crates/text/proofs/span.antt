pub mod Turns
pub mod Bars
pub mod Right
