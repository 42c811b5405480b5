pub mod Tested
pub mod Words
pub mod Puts
