pub mod Starts
pub mod Same
