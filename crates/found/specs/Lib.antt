pub mod Numbers
pub mod Bearings
