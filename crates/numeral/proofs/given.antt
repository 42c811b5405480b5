pub mod Given
pub mod Says
pub mod Steps
pub mod Sound
