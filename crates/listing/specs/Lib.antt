pub mod Listed
pub mod item
pub mod group
