pub mod Ends
pub mod Going
