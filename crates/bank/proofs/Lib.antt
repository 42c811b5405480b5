pub mod Range
pub mod Sound
pub mod Spelled
pub mod Back
pub mod Due
pub mod Edges
