pub mod Stepped
pub mod Judged
