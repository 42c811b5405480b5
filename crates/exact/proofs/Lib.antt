pub mod Told
pub mod Counts
pub mod Moves
pub mod Completes
pub mod Accepts
pub mod Main
