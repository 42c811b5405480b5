pub mod Fields
pub mod Words
pub mod Laws
pub mod Exits
