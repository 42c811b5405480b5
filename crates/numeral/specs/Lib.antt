pub mod Told
pub mod Zero
pub mod field
pub mod placed
pub mod counted
