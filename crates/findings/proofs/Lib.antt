-- Laws of listing: how much is listed, and how the call ends.
pub mod Lengths
pub mod Exits
pub mod Determined
