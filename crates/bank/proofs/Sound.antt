-- What the bank field's reader accepts. Assumes nothing.
use mathlib.Core.Path.{◌≡◌, refl}
use mathlib.Core.Bool.{Bool, true, false}
use mathlib.Core.Logic.{◌⊎◌, inl, inr}
use mathlib.Core.List.{List}
use Prim.Native.Nat.{ℕ, ◌/◌, ◌%◌, ◌^◌, ◌≤◌, ◌<◌}
use native.Mathlib.Omega.{arith}
use lib.Dec.{ltb, eqb}
use borrow.Author.Tests.{eqb-false, ltb-false}
use Rattle.base.specs.Pick.{pick}
use Rattle.base.proofs.Cases.{either}
use Rattle.paper.specs.Read.{value}
use Rattle.paper.specs.Numerals.{digits}
use Rattle.paper.specs.BankField.{Bank, ninth, read_bank, bank_proper, priority_proper, priority_carried}
use Rattle.numeral.proofs.Sound.{digits-sound, digits-fault}
use Rattle.bank.proofs.Range.{bank-in, priority-in}
use Rattle.numeral.proofs.given.Says.{Says, of_value, of_fault, says, says-given, says-value}

-- what the field's values are; `ranked`: it holds the priority
pub record Proper (ranked : Bool) (x : Bank) : Type 0 where
  pub bank_is : bank_proper x.bank ≡ true
  pub constant_is : x.constant < 10 ^ 4
  pub priority_is : priority_proper x.priority ≡ true
  pub carried : priority_carried ranked x.priority ≡ true
  pub warned : x.warnings ≤ 1

-- the numbers of its refusals
abbrev pub Faults : ℕ → Type 0
Faults n = (n ≡ 4) ⊎ ((n ≡ 12) ⊎ (n ≡ 13))

ninth-says : (ranked : Bool) (d b c : ℕ) → d ≤ 9 → 1 ≤ b → b ≤ 9999 → c < 10 ^ 4 → Says (Proper ranked) Faults (ninth ranked d b c)
unfolding ninth pick priority_carried
ninth-says true d b c h l m k =
    of_value (Proper true) Faults _ (record {
      bank_is = bank-in b l m;
      constant_is = k;
      priority_is = either (λ p. priority_proper p ≡ true) (ltb d 3) (λ e. priority-in 5 (omega arith) (omega arith)) (λ e. priority-in d (ltb-false d 3 e) h);
      carried = refl;
      warned = either (λ w. w ≤ 1) (ltb d 1) (λ e. omega arith) (λ e. either (λ w. w ≤ 1) (ltb d 3) (λ f. omega arith) (λ f. omega arith));
    })
ninth-says false d b c h l m k =
    either (Says (Proper false) Faults) (eqb d 0)
    (λ e. of_value (Proper false) Faults _ (record {
      bank_is = bank-in b l m;
      constant_is = k;
      priority_is = priority-in 5 (omega arith) (omega arith);
      carried = refl;
      warned = omega arith;
    }))
    (λ e. of_fault (Proper false) Faults 13 (inr (inr refl)))

module _ (ranked : Bool) (s : List ℕ) where
  bank-says : Says (Proper ranked) Faults (read_bank ranked s)
  unfolding read_bank
  bank-says =
      says-given (λ n. n < 10 ^ 10) (Proper ranked) Faults (digits 8 10 s) _
      (says _ _ _ (digits-sound 8 10 s) (λ n e. inl (digits-fault 8 10 s n e))) λ n h.
      either (Says (Proper ranked) Faults) (eqb (n / 10000 % 10000) 0) (λ e. of_fault (Proper ranked) Faults 12 (inr (inl refl))) λ e.
      let z : n / 10000 % 10000 ≡ 0 → ⊥ = eqb-false (n / 10000 % 10000) 0 e in
      either (Says (Proper ranked) Faults) (ltb 999999999 n) (λ f. of_fault (Proper ranked) Faults 13 (inr (inr refl))) λ f.
      ninth-says ranked (n / 100000000) (n / 10000 % 10000) (n % 10000)
      (omega (arith, ltb-false 999999999 n f)) (omega arith) (omega arith) (omega arith)

  -- every value that is read may stand in a batch, and the sheet carries it
  pub bank-sound : (x : Bank) → read_bank ranked s ≡ value x → Proper ranked x
  bank-sound = says-value (Proper ranked) Faults _ bank-says

  pub bank-warnings : (x : Bank) → read_bank ranked s ≡ value x → x.warnings ≤ 1
  bank-warnings x e = (bank-sound x e).warned
