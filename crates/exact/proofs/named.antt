pub mod Fields
pub mod Named
pub mod Lines
pub mod Places
pub mod Main
