pub mod Digits
pub mod Counted
pub mod Filled
pub mod Laid
pub mod Laws
pub mod Exits
pub mod Determined
