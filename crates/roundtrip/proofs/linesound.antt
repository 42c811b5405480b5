pub mod Checks
pub mod Items
pub mod Rows
pub mod FirstLine
pub mod FileLine
pub mod GroupLine
pub mod ItemLine
pub mod Main
