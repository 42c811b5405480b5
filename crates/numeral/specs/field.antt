pub mod At
pub mod Digits
pub mod Kept
pub mod Told
