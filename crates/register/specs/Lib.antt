pub mod Marks
pub mod Register
pub mod Told
