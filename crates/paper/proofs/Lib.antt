pub mod Fields
pub mod LineSays
pub mod Lists
pub mod Passing
pub mod Starts
pub mod Trees
pub mod Verdicts
