-- Laws of refusals, their numbers and their places. Assumes nothing.
pub mod Places
pub mod Positive
