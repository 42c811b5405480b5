pub mod Places
pub mod Notices
pub mod Lines
pub mod Found
pub mod Puts
pub mod Same
