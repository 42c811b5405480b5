pub mod Numbers
pub mod Stages
pub mod Exits
pub mod Walks
