pub mod Lifts
pub mod Leading
