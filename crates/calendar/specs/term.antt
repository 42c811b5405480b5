pub mod Allows
