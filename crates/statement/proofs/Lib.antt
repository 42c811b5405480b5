pub mod Pieces
pub mod Passing
pub mod Putting
