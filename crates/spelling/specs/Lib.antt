pub mod itemlen
pub mod file
