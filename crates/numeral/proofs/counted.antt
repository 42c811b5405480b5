-- Laws of counting writers: one after another, and where there is room; and how the writers of this crate end.
pub mod Laws
mod Exits
