pub mod Chain
pub mod First
pub mod File
pub mod Group
