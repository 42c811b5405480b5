pub mod Places
pub mod References
