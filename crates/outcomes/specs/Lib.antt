pub mod Outcomes
pub mod numbers
