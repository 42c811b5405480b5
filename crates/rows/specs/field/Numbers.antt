-- The number of each field: docs/ROWS.md, the first word of a row's field, and the header's fields in their order. Assumes nothing.
use Rattle.std.specs.Prelude.{ℕ, Result, Ok, Err}
use Rattle.rows.specs.declared.field.Field.{Field}
use Rattle.rows.specs.declared.field.Field.TheVariants.{Row, HeaderDate, HeaderName, HeaderClient, HeaderFrom, HeaderTo, FileKind, FileNumber, GroupDue, GroupPayer, ItemPayer, ItemPayee, ItemBank, ItemAmount, ItemVariable, ItemSpecific, ItemConstant, ItemPriority, ItemPart1, ItemPart2, ItemPart3, ItemPart4, ItemName, ItemReference}

abbrev pub number_of : Field → ℕ
number_of Row = 0
number_of HeaderDate = 1
number_of HeaderName = 2
number_of HeaderClient = 3
number_of HeaderFrom = 4
number_of HeaderTo = 5
number_of FileKind = 1
number_of FileNumber = 2
number_of GroupDue = 1
number_of GroupPayer = 2
number_of ItemPayer = 1
number_of ItemPayee = 3
number_of ItemBank = 5
number_of ItemAmount = 6
number_of ItemVariable = 7
number_of ItemSpecific = 8
number_of ItemConstant = 9
number_of ItemPriority = 10
number_of ItemPart1 = 11
number_of ItemPart2 = 13
number_of ItemPart3 = 15
number_of ItemPart4 = 17
number_of ItemName = 19
number_of ItemReference = 21

-- a test's answer, with the field told by its number
abbrev pub numbered : Result (Unit {0}) Field → Result (Unit {0}) ℕ
numbered (Ok u) = Ok u
numbered (Err f) = Err (number_of f)
