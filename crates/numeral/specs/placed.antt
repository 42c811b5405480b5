pub mod Placed
pub mod Known
pub mod Said
pub mod Told
