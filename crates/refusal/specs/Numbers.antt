-- The number of each refusal: document 01, "Numbers returned", and document 02 for registers and statements. Assumes nothing.
use Rattle.std.specs.Prelude.{ℕ, Option, Some, None}
use Rattle.refusal.specs.declared.Refusal.{Refusal}
use Rattle.refusal.specs.declared.Refusal.TheVariants.{BadSheet, BadToday, BadOrder, BadField, BadAccount, BadAmount, BadKind, BadPayerBank, BadNumber, BadTotal, BadDay, BadPayeeBank, BadDigit, BadText, TooMany, NoRoom, NotABatch, NotCarried, NumberUsed, BadRegister, NotTaken, BadRecord, BadValue, BadTurnover, BadBalance}

abbrev pub number_of : Refusal → ℕ
number_of BadSheet = 1
number_of BadToday = 2
number_of BadOrder = 3
number_of BadField = 4
number_of BadAccount = 5
number_of BadAmount = 6
number_of BadKind = 7
number_of BadPayerBank = 8
number_of BadNumber = 9
number_of BadTotal = 10
number_of BadDay = 11
number_of BadPayeeBank = 12
number_of BadDigit = 13
number_of BadText = 14
number_of TooMany = 15
number_of NoRoom = 16
number_of NotABatch = 20
number_of NotCarried = 21
number_of NumberUsed = 22
number_of BadRegister = 23
number_of NotTaken = 24
number_of BadRecord = 50
number_of BadValue = 51
number_of BadTurnover = 52
number_of BadBalance = 53

-- the number that is answered where there may be no refusal: 0 accepts
abbrev pub answered : Option Refusal → ℕ
answered None = 0
answered (Some r) = number_of r
