pub mod Reaching
pub mod Stepping
