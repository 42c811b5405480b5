pub mod Reached
pub mod Found
pub mod Halts
pub mod Main
