pub mod Stages
pub mod Leading
