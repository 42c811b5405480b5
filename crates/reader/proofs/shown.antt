pub mod Numbers
pub mod Lines
pub mod Main
