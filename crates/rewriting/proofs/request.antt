-- Laws of the input's first line: where it is cut off, and what it asks for.
pub mod First
pub mod Asking
