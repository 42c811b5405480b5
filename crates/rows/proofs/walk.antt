pub mod Dues
pub mod Steps
pub mod Passed
pub mod Going
