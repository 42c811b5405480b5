pub mod Order
pub mod Canon
pub mod Lengths
pub mod Few
