pub mod Rulings
pub mod Numbers
