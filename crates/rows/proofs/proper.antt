pub mod Laws
pub mod Exits
