pub mod Judging
pub mod Answering
pub mod Filling
pub mod Determined
