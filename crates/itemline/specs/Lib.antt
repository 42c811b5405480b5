pub mod Told
pub mod Walk
pub mod tail
pub mod judge
pub mod take
