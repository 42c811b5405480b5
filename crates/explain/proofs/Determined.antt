-- An answer of explaining is known by what it tells. Assumes nothing.
use mathlib.Core.Path.{◌≡◌, ap}
use Rattle.explain.specs.declared.AboText.{AboText}
use Rattle.explain.specs.Told.{TextAnswer, told}

-- the answer that tells this
abbrev answer_for : TextAnswer → AboText
answer_for r = record { number = r.number; bytes = r.bytes }

-- two answers that tell the same are the same
pub told-one : (a b : AboText) → told a ≡ told b → a ≡ b
told-one a b e = ap answer_for e
