pub mod Told
pub mod Sized
pub mod After
