-- Laws of what each sheet says: one line, the sheets one after another, and their bits.
pub mod Saying
mod Following
mod Turns
pub mod Every
mod Examples
