pub mod Said
pub mod Put
pub mod Lines
