pub mod Brief
pub mod Told
