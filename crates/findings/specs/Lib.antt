pub mod Findings
pub mod Lists
pub mod Told
pub mod outcome
