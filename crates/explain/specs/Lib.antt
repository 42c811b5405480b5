pub mod Explanation
pub mod Parts
pub mod Told
