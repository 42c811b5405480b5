-- Laws of sentences: texts of several parts and by tests, words by their number, and how long and how printable a sentence is.
pub mod Parts
pub mod Saying
pub mod Fits
pub mod Quotes
pub mod Permitted
pub mod Whole
pub mod Short
pub mod Printable
