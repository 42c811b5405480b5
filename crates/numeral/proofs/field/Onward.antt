-- A field that is read on at its place: a number, and then what it must be. One step of an answer r through it, for `search`.
-- Assumes nothing.
use Rattle.std.proofs.Common.{◌≡◌, ℕ, ◌+◌, ◌<◌, ◌≤◌, Bool, true, false, eqb, ltb, Result, Ok, Err, List, drop, sym, refl, ap, ◌∙◌, le-ltb, lt-ltb, eq-eqb, ne_eqb}
use Rattle.base.specs.Pick.{pick}
use Rattle.base.specs.Seek.{seek}
use Rattle.base.proofs.Cases.{pick_true, pick-false}
use Rattle.refusal.specs.declared.Refusal.{Refusal}
use Rattle.refusal.specs.Numbers.{number_of}
use Rattle.paper.specs.Read.{Field, value, fault, given}
use Rattle.paper.specs.Bytes.{space, field_of}
use Rattle.numeral.specs.field.At.{At, found, missed, ending, field_at}
use Rattle.numeral.specs.declared.field.Run.{Run}
use Rattle.numeral.specs.field.Told.{told}

-- the value is read on, and its field's end stays
unfoldable pub onward : {A B : Type 0} → At A → (A → Field B) → At B
onward (found v e) k = ending e (k v)
onward (missed n) k = missed n

module _ {A B : Type 0} (k : A → Field B) where
  each : (e : ℕ) (x : Field A) → onward (ending e x) k ≡ ending e (given x k)
  unfolding onward ending given
  each e (value v) = refl
  each e (fault n) = refl

  -- a field that is read on, read at its place
  pub given-at : (read : List ℕ → Field A) (s : List ℕ) (at : ℕ) → onward (field_at read s at) k ≡ field_at (λ t. given (read t) k) s at
  unfolding field_at
  given-at read s at = each (at + seek space (drop at s)) (read (field_of (drop at s)))

-- ---- steps: n is what a callee answered

module _ {B : Type 0} (r : At B) (x : At ℕ) (k : ℕ → Field B) (n : Result Run Refusal) (g : told n ≡ x) where
  pub on_value : (d : Run) → n ≡ Ok d → r ≡ ending d.end (k d.value) → r ≡ onward x k
  unfolding onward
  on_value d f q = q ∙ rw (← g, f)

  pub on-refused : (c : Refusal) → n ≡ Err c → r ≡ missed (number_of c) → r ≡ onward x k
  unfolding onward
  on-refused c f q = q ∙ rw (← g, f)

-- what a field that ends at e says
module _ {A : Type 0} (r : At A) (e : ℕ) where
  pub ends-value : (v : A) → r ≡ found v e → r ≡ ending e (value v)
  unfolding ending
  ends-value v q = q

  pub ends-fault : (n : ℕ) → r ≡ missed n → r ≡ ending e (fault n)
  unfolding ending
  ends-fault n q = q

  -- by a test that a callee made
  module _ (a b : Field A) (t u : Bool) (g : t ≡ u) where
    pub ends-yes : t ≡ true → r ≡ ending e a → r ≡ ending e (pick u a b)
    ends-yes h q = q ∙ sym (ap (ending e) (pick_true a b (sym g ∙ h)))

    pub ends-not : t ≡ false → r ≡ ending e b → r ≡ ending e (pick u a b)
    ends-not h q = q ∙ sym (ap (ending e) (pick-false a b (sym g ∙ h)))

  -- by a test that stands in the code
  module _ (a b : Field A) (t : Bool) where
    pub ends_on : t ≡ true → r ≡ ending e a → r ≡ ending e (pick t a b)
    ends_on h q = q ∙ sym (ap (ending e) (pick_true a b h))

    pub ends-off : t ≡ false → r ≡ ending e b → r ≡ ending e (pick t a b)
    ends-off h q = q ∙ sym (ap (ending e) (pick-false a b h))

  -- by a test of numbers
  module _ (a b : Field A) (m n : ℕ) where
    pub ends-eq : m ≡ n → r ≡ ending e a → r ≡ ending e (pick (eqb m n) a b)
    ends-eq h q = q ∙ sym (ap (ending e) (pick_true a b (eq-eqb m n h)))

    pub ends-ne : (m ≡ n → ⊥) → r ≡ ending e b → r ≡ ending e (pick (eqb m n) a b)
    ends-ne h q = q ∙ sym (ap (ending e) (pick-false a b (ne_eqb m n h)))

    pub ends-lt : m < n → r ≡ ending e a → r ≡ ending e (pick (ltb m n) a b)
    ends-lt h q = q ∙ sym (ap (ending e) (pick_true a b (lt-ltb m n h)))

    pub ends-ge : n ≤ m → r ≡ ending e b → r ≡ ending e (pick (ltb m n) a b)
    ends-ge h q = q ∙ sym (ap (ending e) (pick-false a b (le-ltb m n h)))

pub ruleset onwards = (on_value, on-refused, ends-value, ends-fault, ends-yes, ends-not, ends_on, ends-off, ends-eq, ends-ne, ends-lt, ends-ge)
