pub mod Told
pub mod Begun
pub mod Finish
pub mod span
pub mod division
pub mod wording
pub mod extent
