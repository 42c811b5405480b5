pub mod Twice
pub mod Round
pub mod Questions
pub mod Demands
pub mod Corollaries
pub mod Statements
pub mod Findings
pub mod Register
