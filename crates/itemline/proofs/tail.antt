pub mod Tails
pub mod Steps
