pub mod Resume
