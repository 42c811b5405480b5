pub mod Warned
pub mod Ahead
