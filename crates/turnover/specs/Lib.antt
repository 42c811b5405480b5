pub mod Counts
pub mod signed
