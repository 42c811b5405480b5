pub mod field
pub mod list
pub mod read
pub mod proper
pub mod walk
pub mod clean
pub mod carried
