-- Laws of the whole answer of writing: what it is by the answers of judging, and that it is one; and how the functions end.
pub mod Laws
pub mod Determined
mod Exits
