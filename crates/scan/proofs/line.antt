pub mod Plain
pub mod Lines
pub mod Cutting
pub mod Only
pub mod Places
pub mod Fields
