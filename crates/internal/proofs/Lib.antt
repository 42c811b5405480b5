pub mod Places
pub mod Numbers
pub mod Parts
pub mod Laws
pub mod Exits
pub mod Examples
