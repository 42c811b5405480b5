pub mod Files
pub mod Groups
