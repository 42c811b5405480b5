pub mod Against
pub mod Registered
pub mod Turned
pub mod FirstUsed
pub mod Outcomes
