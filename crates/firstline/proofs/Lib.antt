pub mod Steps
pub mod Holds
pub mod Sound
