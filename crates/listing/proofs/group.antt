pub mod Spot
pub mod Writes
pub mod Sums
pub mod Same
