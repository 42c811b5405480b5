pub mod Sum
pub mod Passing
pub mod Lines
pub mod Ends
pub mod Row
pub mod Going
