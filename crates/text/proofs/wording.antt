pub mod Parts
pub mod Fit
pub mod Sound
pub mod Back
pub mod Laws
mod Examples
pub mod Warnings
