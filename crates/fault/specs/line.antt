pub mod Walks
pub mod Stages
