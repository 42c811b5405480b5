pub mod Stages
pub mod Told
