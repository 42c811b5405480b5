pub mod Brief
pub mod Steps
