-- Statements (GPC records 074 and 075) as definitions, in the order in which to read them.
-- fields by place
pub mod Parts
-- the account in a record
pub mod Internal
-- its balances and turnovers, and what they have to agree with
pub mod Signed
pub mod Turnovers
-- a record, and how it is read and spelled
pub mod Records
-- statements, and the order in which their rules are tested
pub mod Statements
-- which file spells which statements, and the first rule that is broken, both declared
pub mod Spelled
pub mod FirstFault
-- the file that is written
pub mod Canonical
-- rows, and the answers of both calls
pub mod StatementRows
pub mod Answers
