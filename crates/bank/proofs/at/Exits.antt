-- The answers of the bank field's judge. Assumes nothing.
use mathlib.Core.Path.{◌≡◌, refl, sym, ap, ◌∙◌}
use mathlib.Core.Bool.{Bool, true, false}
use mathlib.Core.List.{List}
use Prim.Native.Nat.{ℕ, ◌+◌, ◌/◌, ◌%◌}
use native.Mathlib.Omega.{arith}
use lib.Dec.{eqb, ltb}
use lib.ListN.{drop}
use Rattle.std.proofs.Common.{Result, Ok, Err}
use borrow.Author.Tests.{lt-ltb, le-ltb, eq-eqb, ne_eqb}
use Rattle.base.specs.Pick.{pick}
use Rattle.base.specs.Seek.{seek}
use Rattle.base.proofs.Cases.{by-test, by-lt}
use Rattle.refusal.specs.declared.Refusal.{Refusal}
use Rattle.refusal.specs.Numbers.{number_of}
use Rattle.paper.specs.Read.{Field, value, fault, given}
use Rattle.paper.specs.Bytes.{space, field_of}
use Rattle.paper.specs.Numerals.{digits}
use Rattle.paper.specs.BankField.{Bank, ninth, read_bank, read_due_bank}
use Rattle.numeral.specs.field.At.{At, found, missed, ending, field_at}
use Rattle.numeral.specs.field.Kept.{keeping}
use Rattle.numeral.proofs.field.Onward.{onward}
use Rattle.numeral.proofs.field.Kept.{kept-says}
use Rattle.paper.specs.ItemLine.{is_value}
use Rattle.bank.proofs.Due.{due_of, any-due-bank}
use Rattle.calendar.specs.declared.term.Banks.{Banks}
use Rattle.calendar.specs.declared.term.Banks.TheVariants as which
use Rattle.calendar.specs.term.Allows.{allows}
use Rattle.bank.specs.declared.at.Bank as taken
use Rattle.bank.specs.declared.at.Warned.{Warned}
use Rattle.bank.specs.at.Told.{told, told_bank}
use Rattle.bank.specs.at.Warned.{warnings_of, warned_by}

-- the ninth digit d
ninth-warned : (ranked : Bool) (d b c e : ℕ) → keeping warnings_of (ending e (ninth ranked d b c)) ≡ ending e (warned_by ranked d)
unfolding ninth warned_by keeping ending pick
ninth-warned true d b c e =
    by-test (ltb d 1) (λ t. simp t) (λ t. by-test (ltb d 3) (λ u. simp (t, u)) (λ u. simp (t, u)))
ninth-warned false d b c e =
    by-lt d 1 (λ l. simp (eq-eqb d 0 (omega arith), lt-ltb d 1 l)) (λ l. simp (ne_eqb d 0 (λ z. omega arith), le-ltb d 1 l))

-- what the number n of the field's digits gives
abbrev judged : Bool → ℕ → Field ℕ
judged ranked n = pick (eqb (n / 10000 % 10000) 0) (fault 12) (pick (ltb 999999999 n) (fault 13) (warned_by ranked (n / 100000000)))

abbrev said : Bool → ℕ → Field Bank
said ranked n =
    pick (eqb (n / 10000 % 10000) 0) (fault 12)
    (pick (ltb 999999999 n) (fault 13) (ninth ranked (n / 100000000) (n / 10000 % 10000) (n % 10000)))

number-judged : (ranked : Bool) (n e : ℕ) → keeping warnings_of (ending e (said ranked n)) ≡ ending e (judged ranked n)
unfolding keeping ending pick
number-judged ranked n e =
    by-test (eqb (n / 10000 % 10000) 0) (λ t. simp t)
    (λ t. by-test (ltb 999999999 n) (λ u. simp (t, u)) (λ u. simp (t, u) (ninth-warned ranked (n / 100000000) (n / 10000 % 10000) (n % 10000) e)))

digits-judged : (ranked : Bool) (e : ℕ) (x : Field ℕ) → keeping warnings_of (ending e (given x (said ranked))) ≡ onward (ending e x) (judged ranked)
unfolding keeping ending onward given
digits-judged ranked e (value n) = number-judged ranked n e
digits-judged ranked e (fault m) = refl

-- the field is a number that is read on
pub bank-field : (r : At ℕ) (ranked : Bool) (s : List ℕ) (at : ℕ)
    → r ≡ onward (field_at (digits 8 10) s at) (λ n. pick (eqb (n / 10000 % 10000) 0) (fault 12) (pick (ltb 999999999 n) (fault 13) (warned_by ranked (n / 100000000))))
    → r ≡ keeping warnings_of (field_at (read_bank ranked) s at)
unfolding field_at read_bank
bank-field r ranked s at q = q ∙ sym (digits-judged ranked (at + seek space (drop at s)) (digits 8 10 (field_of (drop at s))))

-- ---- a field whose bank may be due or not: n is what was read of it, t the answer for its bank

module _ (due : ℕ → Bool) (t : Bool) (end : ℕ) where
  is-due : (w e : ℕ) (x : Field Bank) → found w e ≡ keeping warnings_of (ending end x) → ((b : Bank) → x ≡ value b → t ≡ due b.bank) → t ≡ true
      → found w e ≡ keeping warnings_of (ending end (due_of due x))
  unfolding given pick
  is-due w e (value b) g h y = rw (sym (h b refl) ∙ y) g
  is-due w e (fault n) g h y = g

  not-due : (w e : ℕ) (x : Field Bank) → found w e ≡ keeping warnings_of (ending end x) → ((b : Bank) → x ≡ value b → t ≡ due b.bank) → t ≡ false
      → missed 11 ≡ keeping warnings_of (ending end (due_of due x))
  unfolding given pick ending keeping
  not-due w e (value b) g h y = rw (sym (h b refl) ∙ y)
  not-due w e (fault n) g h y = absurd (let z : ◌≡◌ {A = ℕ} 0 1 = cc in omega arith)

  no_field : (n : ℕ) (x : Field Bank) → missed n ≡ keeping warnings_of (ending end x) → missed n ≡ keeping warnings_of (ending end (due_of due x))
  unfolding given ending keeping
  no_field n (value b) g = absurd (let z : ◌≡◌ {A = ℕ} 0 1 = cc in omega arith)
  no_field n (fault m) g = g

module _ (ranked : Bool) (due : ℕ → Bool) (s : List ℕ) (at : ℕ) (n : Result Warned Refusal) (g : told n ≡ keeping warnings_of (field_at (read_bank ranked) s at)) where
  module _ (d : Warned) (q : n ≡ Ok d) where
    pub judged-says : is_value (read_bank ranked (field_of (drop at s))) ≡ true
    judged-says = kept-says warnings_of (read_bank ranked) s at d.warnings d.end (rw q at g)

    module _ (t : Bool) (h : (b : Bank) → read_bank ranked (field_of (drop at s)) ≡ value b → t ≡ due b.bank) where
      pub field-due : t ≡ true → told (Ok d) ≡ keeping warnings_of (field_at (read_due_bank ranked due) s at)
      unfolding field_at read_due_bank
      field-due y = is-due due t _ d.warnings d.end _ (rw q at g) h y

      pub field-not-due : t ≡ false → missed 11 ≡ keeping warnings_of (field_at (read_due_bank ranked due) s at)
      unfolding field_at read_due_bank
      field-not-due y = not-due due t _ d.warnings d.end _ (rw q at g) h y

  pub field-missed : (c : Refusal) → n ≡ Err c → missed (number_of c) ≡ keeping warnings_of (field_at (read_due_bank ranked due) s at)
  unfolding field_at read_due_bank
  field-missed c q = no_field due true _ (number_of c) _ (rw q at g)

pub ruleset dues = (judged-says, field-due, field-not-due, field-missed)

-- where every bank may be due, the field is judged as it stands
pub field-any : (banks : Banks) → banks ≡ which.Any → (ranked : Bool) (own : ℕ) (s : List ℕ) (at : ℕ) (r : At ℕ) → r ≡ keeping warnings_of (field_at (read_bank ranked) s at)
    → r ≡ keeping warnings_of (field_at (read_due_bank ranked (allows banks own)) s at)
unfolding field_at
field-any banks e ranked own s at r g = rw (e, any-due-bank (allows which.Any own) (λ b. refl) ranked (field_of (drop at s))) g

-- ---- its bank

module _ (banks : Banks) (own : ℕ) where
  pub any-allowed : banks ≡ which.Any → (b : Bank) → true ≡ allows banks own b.bank
  any-allowed e b = rw e

  pub none_allowed : banks ≡ which.Nobody → (b : Bank) → false ≡ allows banks own b.bank
  none_allowed e b = rw e

  -- r is what was taken of it
  pub own-allowed : banks ≡ which.Own → (ranked : Bool) (s : List ℕ) (at : ℕ) (r : taken.Bank) → told_bank r ≡ field_at (read_bank ranked) s at
      → (b : Bank) → read_bank ranked (field_of (drop at s)) ≡ value b → eqb r.bank own ≡ allows banks own b.bank
  unfolding field_at ending
  own-allowed e ranked s at r g b q = rw e (ap (λ (x : ℕ). eqb x own) (same-bank (rw q at g)))
    where
      same-bank : told_bank r ≡ found b (at + seek space (drop at s)) → r.bank ≡ b.bank
      same-bank f = cc
