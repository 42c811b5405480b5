pub mod Bytes
pub mod Parts
pub mod Doubled
pub mod at
pub mod Decree
