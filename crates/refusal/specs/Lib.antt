-- What a refusal is called by callers. Assumes nothing.
pub mod Numbers
pub mod Placed
