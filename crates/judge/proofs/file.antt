pub mod Heads
pub mod Goes
