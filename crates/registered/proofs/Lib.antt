pub mod Dates
pub mod Judging
pub mod Ends
pub mod Answers
