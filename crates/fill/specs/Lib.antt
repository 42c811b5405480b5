pub mod itemrow
pub mod file
