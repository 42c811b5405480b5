-- An answer of a call is known by what it tells. Assumes nothing.
use mathlib.Core.Path.{◌≡◌, ap}
use Rattle.register.specs.declared.AboRegister.{AboRegister}
use Rattle.register.specs.Register.{RegisterAnswer}
use Rattle.register.specs.Told.{told_answer}

-- the answer that tells this
abbrev answer_for : RegisterAnswer → AboRegister
answer_for r = record { number = r.number; value = r.value }

-- two answers that tell the same are the same
pub told-one : (a b : AboRegister) → told_answer a ≡ told_answer b → a ≡ b
told-one a b e = ap answer_for e
