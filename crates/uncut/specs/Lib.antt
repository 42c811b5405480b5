pub mod Unmarked
pub mod Wider
pub mod Severe
pub mod Looser
