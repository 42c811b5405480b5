pub mod Small
pub mod Judging
pub mod Bounds
pub mod Bytes
pub mod Next
