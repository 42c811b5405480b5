-- One step of an answer r through a number that was read: n is what the reader answered, x what its contract says of it. For `search`. Assumes nothing.
use Rattle.std.proofs.Common.{◌≡◌, ℕ, Result, Ok, Err, sym, ap, ◌∙◌}
use Rattle.refusal.specs.declared.Refusal.{Refusal}
use Rattle.refusal.specs.Numbers.{number_of}
use Rattle.paper.specs.Read.{Field, value, fault, given}
use Rattle.numeral.specs.Told.{told}

module _ {A : Type 0} (r : Field A) (k : ℕ → Field A) (n : Result ℕ Refusal) (x : Field ℕ) (g : told n ≡ x) where
  pub step_value : (v : ℕ) → n ≡ Ok v → r ≡ k v → r ≡ given x k
  unfolding given
  step_value v e h = h ∙ rw (← g, e)

  pub step-refused : (e : Refusal) → n ≡ Err e → r ≡ fault (number_of e) → r ≡ given x k
  unfolding given
  step-refused e h f = f ∙ rw (← g, h)

-- what the field said where the reader answered so
module _ (n : Result ℕ Refusal) (x : Field ℕ) (g : told n ≡ x) where
  pub was-value : (v : ℕ) → n ≡ Ok v → x ≡ value v
  was-value v e = sym g ∙ ap told e

pub ruleset steps = (step_value, step-refused)
