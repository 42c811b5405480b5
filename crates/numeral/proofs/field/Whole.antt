-- A field that is read by its bytes, from its place to the end e that was found. Assumes nothing.
use Rattle.std.proofs.Common.{◌≡◌, ℕ, ◌+◌, ◌-◌, Result, Ok, Err, List, take, drop, arith}
use Rattle.base.specs.Seek.{seek}
use Rattle.refusal.specs.declared.Refusal.{Refusal}
use Rattle.refusal.specs.Numbers.{number_of}
use Rattle.paper.specs.Read.{Field, value, fault}
use Rattle.paper.specs.Bytes.{space, field_of}
use Rattle.numeral.specs.Told.{told}
use Rattle.numeral.specs.field.At.{found, missed, ending, field_at}

-- x is what the reader said of the bytes
module _ {A : Type 0} (read : List ℕ → Field A) (s : List ℕ) (at e : ℕ) (h : e ≡ at + seek space (drop at s)) where
  whole-field : read (take (e - at) (drop at s)) ≡ read (field_of (drop at s))
  whole-field = let d : e - at ≡ seek space (drop at s) = omega arith in rw d

  module _ (x : Field A) (g : x ≡ read (take (e - at) (drop at s))) where
    pub whole-found : (v : A) → x ≡ value v → found v e ≡ field_at read s at
    unfolding field_at ending
    whole-found v f = rw (← h, ← whole-field, ← g, f)

    pub whole-missed : (n : ℕ) → x ≡ fault n → missed n ≡ field_at read s at
    unfolding field_at ending
    whole-missed n f = rw (← whole-field, ← g, f)

-- the reader answered m
module _ (read : List ℕ → Field ℕ) (s : List ℕ) (at e : ℕ) (h : e ≡ at + seek space (drop at s)) (m : Result ℕ Refusal) (g : told m ≡ read (take (e - at) (drop at s))) where
  pub whole-value : (v : ℕ) → m ≡ Ok v → found v e ≡ field_at read s at
  whole-value v f = whole-found read s at e h (told m) g v (rw f)

  pub whole-refused : (n : Refusal) → m ≡ Err n → missed (number_of n) ≡ field_at read s at
  whole-refused n f = whole-missed read s at e h (told m) g (number_of n) (rw f)

pub ruleset wholes = (whole-value, whole-refused)
