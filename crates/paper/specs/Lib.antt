-- Document 01 as definitions, in the order in which to read them.
-- "What the library handles" is the crate sheet.
-- "The batch"
pub mod Read
pub mod Warnings
pub mod Bytes
pub mod Numerals
pub mod Days
-- "Accounts"
pub mod Accounts
-- "Lines": its fields
pub mod Terms
pub mod Amounts
pub mod BankField
pub mod Texts
-- "The batch", whole
pub mod Batch
pub mod Proper
-- "Lines": its lines
pub mod Lines
pub mod Entries
pub mod FirstLine
pub mod FileLine
pub mod GroupLine
pub mod ItemLine
pub mod ClosingLine
-- "Numbers returned": which files are accepted, and the first fault of the others
pub mod Spells
pub mod Judge
pub mod FirstFault
-- reading, whole, with the rows it leaves
pub mod Words
pub mod Rows
pub mod Reading
-- "Canonical spelling", and writing, whole
pub mod Carried
pub mod FirstWrong
pub mod Canonical
pub mod Writing
-- "A whole run"
pub mod Explaining
pub mod Rewriting
