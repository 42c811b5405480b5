pub mod Phrases
pub mod Tables
pub mod Quoted
pub mod Allowed
pub mod Sentences
pub mod Printable
