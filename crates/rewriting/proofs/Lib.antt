-- Laws of rewriting: what is read is written back, and how the functions end.
pub mod Front
pub mod Read
mod Exits
