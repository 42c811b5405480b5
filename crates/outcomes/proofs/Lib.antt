pub mod Reading
pub mod Writing
pub mod Written
pub mod Back
pub mod Kept
pub mod References
