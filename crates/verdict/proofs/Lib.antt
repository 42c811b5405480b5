-- Laws of a verdict: how many rows a file can have, which verdict is its, and the line of a refusal; and how the functions end.
pub mod Bytes
pub mod Least
pub mod Many
pub mod Laws
pub mod Wording
mod Exits
