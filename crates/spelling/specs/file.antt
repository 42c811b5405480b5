pub mod Sum
pub mod Passing
pub mod Lines
