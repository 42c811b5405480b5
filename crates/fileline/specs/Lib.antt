pub mod Told
pub mod Fault
pub mod Ending
pub mod seen
pub mod take
