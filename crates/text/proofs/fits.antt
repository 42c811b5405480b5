pub mod Absent
pub mod Carried
