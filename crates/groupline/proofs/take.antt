pub mod Dates
pub mod Groups
