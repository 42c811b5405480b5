pub mod Placed
pub mod Bytes
pub mod Turns
pub mod Parts
pub mod Symbols
pub mod Goes
pub mod Last
