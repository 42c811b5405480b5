-- Laws of lengths: of texts, of the lines of rows, of a canonical file, and of the input that matters.
pub mod Texts
pub mod Items
pub mod Files
pub mod Input
