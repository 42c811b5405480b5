pub mod Ahead
pub mod Says
pub mod Puts
pub mod Listing
