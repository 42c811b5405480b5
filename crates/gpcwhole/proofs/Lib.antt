-- statements by their things, and what files and rows are judged to be
pub mod Same
pub mod Judged
-- the two calls, each by itself
pub mod Reading
pub mod Writing
-- one after the other
pub mod Again
pub mod Back
pub mod Examples
