pub mod Marks
pub mod Rows
pub mod Moving
pub mod Editions
