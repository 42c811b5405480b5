-- An answer of writing is known by what it tells. Assumes nothing.
use mathlib.Core.Path.{◌≡◌, ap}
use Rattle.paper.specs.Writing.{WriteAnswer}
use Rattle.write.specs.declared.AboWritten.{AboWritten}
use Rattle.write.specs.Told.{told}

-- the answer that tells this
abbrev answer_for : WriteAnswer → AboWritten
answer_for w = record { number = w.number; row = w.row; field = w.field; bytes = w.bytes }

-- two answers that tell the same are the same
pub told-one : (a b : AboWritten) → told a ≡ told b → a ≡ b
told-one a b e = ap answer_for e
