pub mod Fields
pub mod Signs
pub mod Types
pub mod Readings
pub mod Puts
pub mod Records
