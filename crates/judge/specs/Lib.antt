pub mod group
pub mod accountfile
pub mod file
pub mod refused
