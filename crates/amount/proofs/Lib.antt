pub mod Sound
pub mod Back
pub mod Edges
