pub mod Warned
pub mod Found
