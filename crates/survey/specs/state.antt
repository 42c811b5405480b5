pub mod Stands
pub mod Known
pub mod Low
pub mod Goes
pub mod Row
