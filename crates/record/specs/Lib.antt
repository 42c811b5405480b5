pub mod Told
pub mod file
