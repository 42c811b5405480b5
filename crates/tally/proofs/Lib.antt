pub mod Abs
pub mod Same
pub mod Light
pub mod Small
pub mod Short
pub mod Seeds
