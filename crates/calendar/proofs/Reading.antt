-- One step of a reader: a field's answer is read on, a refusal stays. Assumes nothing.
use mathlib.Core.Path.{◌≡◌, refl, ◌∙◌}
use mathlib.Core.Bool.{Bool, true, false}
use mathlib.Core.List.{List}
use Prim.Native.Nat.{ℕ}
use lib.Dec.{eqb}
use lib.ListN.{length}
use Rattle.std.proofs.Common.{Result, Ok, Err}
use borrow.Author.Tests.{eq-eqb, ne_eqb}
use Rattle.base.specs.Pick.{pick}
use Rattle.base.proofs.Cases.{picks}
use Rattle.refusal.specs.declared.Refusal.{Refusal}
use Rattle.refusal.specs.Numbers.{number_of}
use Rattle.paper.specs.Read.{Field, fault, given}
use Rattle.paper.specs.Days.{read_day, long_day, short_day}
use Rattle.numeral.specs.Told.{told}

-- n is what a reader of the field x answered
module _ (n : Result ℕ Refusal) (x : Field ℕ) (k : ℕ → Field ℕ) (g : told n ≡ x) where
  pub read-on : (v : ℕ) (r : Field ℕ) → n ≡ Ok v → r ≡ k v → r ≡ given x k
  unfolding given
  read-on v r e f = f ∙ rw (← g, e)

  pub read-not : (m : Refusal) → n ≡ Err m → fault (number_of m) ≡ given x k
  unfolding given
  read-not m e = rw (← g, e)

-- which of the two forms is read
module _ (r : Field ℕ) (s : List ℕ) (long : Bool) where
  pub long-form : long ≡ true → length s ≡ 8 → r ≡ long_day s → r ≡ read_day long s
  unfolding read_day pick
  long-form e h f = f ∙ simp (e, eq-eqb (length s) 8 h)

  pub other_length : (length s ≡ 8 → ⊥) → r ≡ short_day s → r ≡ read_day long s
  unfolding read_day pick
  other_length n f = f ∙ other long
    where
      other : (b : Bool) → short_day s ≡ pick (pick b (eqb (length s) 8) false) (long_day s) (short_day s)
      other true = simp (ne_eqb (length s) 8 n)
      other false = refl

  pub short-form : long ≡ false → r ≡ short_day s → r ≡ read_day long s
  unfolding read_day pick
  short-form e f = f ∙ simp e

pub ruleset reading = (read-on, read-not, long-form, other_length, short-form, picks)
