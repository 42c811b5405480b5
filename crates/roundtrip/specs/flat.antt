pub mod Flat
pub mod Order
pub mod Count
pub mod Few
