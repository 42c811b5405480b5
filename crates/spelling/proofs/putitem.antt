pub mod Front
pub mod Tail
pub mod Line
