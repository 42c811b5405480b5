pub mod linesound
pub mod whole
pub mod flat
