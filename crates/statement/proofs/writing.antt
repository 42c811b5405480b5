pub mod Judging
pub mod Answering
pub mod Filling
