-- No refusal has the number 0, which accepts. Assumes nothing.
use Rattle.std.proofs.Common.{◌≤◌, arith}
use Rattle.refusal.specs.declared.Refusal.{Refusal}
use Rattle.refusal.specs.declared.Refusal.TheVariants.{BadSheet, BadToday, BadOrder, BadField, BadAccount, BadAmount, BadKind, BadPayerBank, BadNumber, BadTotal, BadDay, BadPayeeBank, BadDigit, BadText, TooMany, NoRoom, NotABatch, NotCarried, NumberUsed, BadRegister, NotTaken, BadRecord, BadValue, BadTurnover, BadBalance}
use Rattle.refusal.specs.Numbers.{number_of}

pub positive : (r : Refusal) → 1 ≤ number_of r
positive BadSheet = omega arith
positive BadToday = omega arith
positive BadOrder = omega arith
positive BadField = omega arith
positive BadAccount = omega arith
positive BadAmount = omega arith
positive BadKind = omega arith
positive BadPayerBank = omega arith
positive BadNumber = omega arith
positive BadTotal = omega arith
positive BadDay = omega arith
positive BadPayeeBank = omega arith
positive BadDigit = omega arith
positive BadText = omega arith
positive TooMany = omega arith
positive NoRoom = omega arith
positive NotABatch = omega arith
positive NotCarried = omega arith
positive NumberUsed = omega arith
positive BadRegister = omega arith
positive NotTaken = omega arith
positive BadRecord = omega arith
positive BadValue = omega arith
positive BadTurnover = omega arith
positive BadBalance = omega arith
