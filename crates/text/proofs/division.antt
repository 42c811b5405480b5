pub mod Marks
pub mod Turns
