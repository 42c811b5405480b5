pub mod Told
pub mod Spaced
pub mod take
