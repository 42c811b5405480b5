pub mod field
pub mod line
pub mod item
pub mod known
