pub mod Ahead
pub mod at
pub mod term
