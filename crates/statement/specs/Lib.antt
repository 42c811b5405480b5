pub mod Forms
pub mod run
pub mod reading
pub mod writing
