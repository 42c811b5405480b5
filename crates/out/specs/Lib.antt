pub mod word
