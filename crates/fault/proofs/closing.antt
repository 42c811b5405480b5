pub mod Pluses
