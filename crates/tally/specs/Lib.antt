pub mod Tally
pub mod Abs
pub mod Small
pub mod Short
