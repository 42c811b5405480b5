-- The three fields of the line as numbers that are read on. Assumes nothing.
use mathlib.Core.Path.{◌≡◌, refl, sym, ap, ◌∙◌}
use mathlib.Core.List.{List}
use Prim.Native.Nat.{ℕ, ◌<◌}
use lib.Dec.{eqb}
use borrow.Author.Tests.{eq-eqb, ne_eqb}
use Rattle.base.specs.Pick.{pick}
use Rattle.std.proofs.Common.{Result, Ok, Option, Some, None, arith}
use Rattle.refusal.specs.declared.Refusal.{Refusal}
use Rattle.refusal.specs.Numbers.{number_of, answered}
use Rattle.refusal.proofs.Positive.{positive}
use Rattle.sheet.specs.declared.Sheet.{Sheet}
use Rattle.sheet.specs.Sheets.{kind_allowed, bank_allowed}
use Rattle.paper.specs.Read.{value, fault}
use Rattle.paper.specs.Numerals.{digits}
use Rattle.paper.specs.FileLine.{read_kind, read_number, read_code}
use Rattle.numeral.specs.field.At.{At, found, missed, field_at}
use Rattle.numeral.specs.declared.field.Run.{Run}
use Rattle.numeral.specs.field.Told.{told}
use Rattle.numeral.proofs.field.Steps.{number-below}
use Rattle.numeral.proofs.field.Onward.{onward, given-at, on_value, ends-value, ends-fault, ends_on, ends-off}

module _ (r : At ℕ) (sh : Sheet) (s : List ℕ) (at : ℕ) where
  pub kind-field : r ≡ onward (field_at (digits 4 4) s at) (λ k. pick (kind_allowed sh k) (value k) (fault 7)) → r ≡ field_at (read_kind sh) s at
  unfolding field_at read_kind
  kind-field q = q ∙ given-at (λ k. pick (kind_allowed sh k) (value k) (fault 7)) (digits 4 4) s at

  pub code-field : r ≡ onward (field_at (digits 4 4) s at) (λ b. pick (bank_allowed sh b) (value b) (fault 8)) → r ≡ field_at (read_code sh) s at
  unfolding field_at read_code
  code-field q = q ∙ given-at (λ b. pick (bank_allowed sh b) (value b) (fault 8)) (digits 4 4) s at

-- the number, and the refusal that the test gives it
pub number-field : (r : At ℕ) (s : List ℕ) (at : ℕ) (test : ℕ → ℕ) → r ≡ onward (field_at (digits 6 6) s at) (λ n. pick (eqb (test n) 0) (value n) (fault (test n))) → r ≡ field_at (read_number test) s at
unfolding field_at read_number
number-field r s at test q = q ∙ given-at (λ n. pick (eqb (test n) 0) (value n) (fault (test n))) (digits 6 6) s at

-- x is what the digits were read as, m the refusal that the test gives their number
module _ (s : List ℕ) (at : ℕ) (test : ℕ → ℕ) (x : Result Run Refusal) (g : told x ≡ field_at (digits 6 6) s at) (d : Run) (m : Option Refusal) (f : x ≡ Ok d) (t : answered m ≡ test d.value) where
  pub number-free : m ≡ None → found d.value d.end ≡ field_at (read_number test) s at
  number-free z =
      number-field (found d.value d.end) s at test
      (on_value (found d.value d.end) _ _ x g d f
      (ends_on (found d.value d.end) d.end (value d.value) (fault (test d.value)) _ (eq-eqb _ _ (sym t ∙ ap answered z)) (ends-value (found d.value d.end) d.end d.value refl)))

  pub number-refused : (c : Refusal) → m ≡ Some c → missed (number_of c) ≡ field_at (read_number test) s at
  number-refused c z =
      let e : number_of c ≡ test d.value = sym (ap answered z) ∙ t in
      number-field (missed (number_of c)) s at test
      (on_value (missed (number_of c)) _ _ x g d f
      (ends-off (missed (number_of c)) d.end (value d.value) (fault (test d.value)) _ (ne_eqb _ _ (λ q. let p = positive c in omega (arith, e, q, p)))
      (ends-fault (missed (number_of c)) d.end (test d.value) (ap missed e))))

-- six digits are a number below a million
pub serial-below : (s : List ℕ) (at : ℕ) (n : Result Run Refusal) → told n ≡ field_at (digits 6 6) s at → (d : Run) → n ≡ Ok d → d.value < 1000000
serial-below s at n g d f = number-below 6 6 s at n g d f

pub ruleset fields = (kind-field, code-field, number-field, number-free, number-refused)
