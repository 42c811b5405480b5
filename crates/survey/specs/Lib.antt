pub mod Told
pub mod state
pub mod step
