-- A bank field of which some payee banks may be due: it is the field, and its bank is one of these. Assumes nothing.
use mathlib.Core.Path.{◌≡◌, refl, sym, ap, ◌∙◌}
use mathlib.Core.Bool.{Bool, true, false}
use mathlib.Core.List.{List}
use Prim.Native.Nat.{ℕ, ◌^◌, ◌<◌}
use native.Mathlib.Omega.{arith}
use Rattle.base.specs.Pick.{pick}
use Rattle.paper.specs.Read.{Field, value, fault, given}
use Rattle.paper.specs.BankField.{Bank, read_bank, read_due_bank, bank_proper, priority_proper, priority_carried, spell_bank}
use Rattle.bank.proofs.Back.{bank-back}

value-is : (x v : Bank) → ◌≡◌ {A = Field Bank} (value x) (value v) → x ≡ v
value-is x v q = cc

module _ (due : ℕ → Bool) where
  -- what is read of x, where its bank may be due
  abbrev pub due_of : Field Bank → Field Bank
  due_of x = given x λ b. pick (due b.bank) (value b) (fault 11)

  chosen : (x v : Bank) (t : Bool) → t ≡ due x.bank → pick t (value x) (fault 11) ≡ value v → (value x ≡ value v) × (due v.bank ≡ true)
  unfolding pick
  chosen x v true e q = (q, ap (λ (b : Bank). due b.bank) (sym (value-is x v q)) ∙ sym e)
  chosen x v false e q = absurd (let z : ◌≡◌ {A = ℕ} 0 1 = cc in omega arith)

  due-of : (x : Field Bank) (v : Bank) → due_of x ≡ value v → (x ≡ value v) × (due v.bank ≡ true)
  unfolding given
  due-of (value b) v e = chosen b v (due b.bank) refl e
  due-of (fault n) v e = absurd (let z : ◌≡◌ {A = ℕ} 0 1 = cc in omega arith)

  pub due-bank : (ranked : Bool) (s : List ℕ) (v : Bank) → read_due_bank ranked due s ≡ value v → (read_bank ranked s ≡ value v) × (due v.bank ≡ true)
  unfolding read_due_bank
  due-bank ranked s v e = due-of (read_bank ranked s) v e

  -- where every bank may be due, it is the field
  all_of : ((b : ℕ) → due b ≡ true) → (x : Field Bank) → due_of x ≡ x
  unfolding given pick
  all_of h (value b) = rw (h b.bank)
  all_of h (fault n) = refl

  pub any-due-bank : ((b : ℕ) → due b ≡ true) → (ranked : Bool) (s : List ℕ) → read_due_bank ranked due s ≡ read_bank ranked s
  unfolding read_due_bank
  any-due-bank h ranked s = all_of h (read_bank ranked s)

  -- the field that spells a bank which may be due
  pub due-bank-back : (ranked : Bool) (b c p : ℕ) → due b ≡ true → bank_proper b ≡ true → c < 10 ^ 4 → priority_proper p ≡ true → priority_carried ranked p ≡ true
      → read_due_bank ranked due (spell_bank b c p) ≡ value (record { bank = b; constant = c; priority = p; warnings = 0 })
  unfolding read_due_bank given pick
  due-bank-back ranked b c p d hb hc hp hr = rw (bank-back ranked b c p hb hc hp hr, d)
