pub mod Fields
pub mod Set
pub mod Four
