pub mod Laws
pub mod Load
pub mod Rows
pub mod Many
