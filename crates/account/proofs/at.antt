pub mod Digits
pub mod None
pub mod Exits
pub mod Doubling
pub mod Judged
pub mod Payers
pub mod Numbers
pub mod Taken
