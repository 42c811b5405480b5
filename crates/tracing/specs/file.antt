pub mod Comes
pub mod Steps
