pub mod at
