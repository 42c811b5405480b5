pub mod Asked
pub mod Frame
