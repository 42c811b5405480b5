pub mod Fields
pub mod Texts
pub mod Named
pub mod Tails
pub mod Stages
pub mod Wholes
