pub mod Marks
pub mod Turns
pub mod Right
pub mod Exits
