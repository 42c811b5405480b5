-- Laws of explaining: the text by its parts, how long it is, that it can be shown as it stands, how the call ends, and that an answer is known by what it tells.
pub mod Text
pub mod Lengths
pub mod Printable
pub mod Exits
pub mod Determined
