pub mod Finding
pub mod Walking
pub mod Determined
