-- The answers of the judge of a group's payer, with what the code knows at each. Assumes nothing.
use mathlib.Core.Path.{◌≡◌, sym, ap, ◌∙◌}
use mathlib.Core.Bool.{Bool, true, false}
use mathlib.Core.List.{List}
use Prim.Native.Nat.{ℕ, ◌+◌, ◌-◌}
use native.Mathlib.Omega.{arith}
use Rattle.std.proofs.Common.{Result, Ok, Err}
use lib.ListN.{take, drop}
use Rattle.base.specs.Pick.{pick}
use Rattle.base.specs.Seek.{seek}
use Rattle.base.proofs.Cases.{by-test, pick-both}
use Rattle.refusal.specs.declared.Refusal.{Refusal}
use Rattle.refusal.specs.Numbers.{number_of}
use Rattle.paper.specs.Read.{fault}
use Rattle.paper.specs.Bytes.{space, field_of, null}
use Rattle.paper.specs.Accounts.{Account, is_nobody, read_account, only_zeros, read_payer}
use Rattle.account.proofs.Zeros.{account-payer}
use Rattle.account.proofs.Proper.{proper-somebody}
use Rattle.account.proofs.Sound.{account-sound}
use Rattle.numeral.specs.field.At.{At, found, missed, ending, field_at}
use Rattle.numeral.specs.field.Kept.{keeping, nothing}
use Rattle.numeral.specs.field.Told.{passed}
use Rattle.numeral.proofs.field.Front.{field-ends}
use Rattle.numeral.proofs.field.Steps.{found-value, found-end, missed-fault}
use Rattle.numeral.proofs.field.Kept.{was-found, was-missed}
use Rattle.account.specs.at.Parts.{zeros_at}

-- ---- `zeros_at`: the field ends at e, and t is whether it has only zeros, where that is looked for

module _ (s : List ℕ) (at e : ℕ) (h : e ≡ at + seek space (drop at s)) (allzero : Bool) (n : ℕ) (t : Bool) (k : t ≡ pick allzero (only_zeros (take (e - at) (drop at s))) false) where
  looked : t ≡ pick allzero (only_zeros (field_of (drop at s))) false
  looked = let d : e - at ≡ seek space (drop at s) = omega arith in rw d at k

  pub zeros-there : t ≡ true → found true e ≡ keeping is_nobody (zeros_at allzero n s at)
  unfolding zeros_at keeping is_nobody pick
  zeros-there y = rw h (sym (rw (sym looked ∙ y)))

  pub zeros-none : t ≡ false → missed n ≡ keeping is_nobody (zeros_at allzero n s at)
  unfolding zeros_at keeping pick
  zeros-none y = sym (rw (sym looked ∙ y))

-- ---- `judge_payer`: t is whether the field is empty, where that is looked for

module _ (s : List ℕ) (at : ℕ) (empty allzero joined : Bool) (least : ℕ) (t : Bool) (k : t ≡ pick empty (null (field_of (drop at s))) false) where
  pub empty-payer : t ≡ true → found true at ≡ keeping is_nobody (field_at (read_payer empty allzero joined least) s at)
  unfolding field_at read_payer ending keeping is_nobody pick
  empty-payer y =
      let z : pick empty (null (field_of (drop at s))) false ≡ true = sym k ∙ y in
      let o : at + seek space (drop at s) ≡ at = omega (arith, field-ends (drop at s) (pick-both empty (null (field_of (drop at s))) z).1) in
      rw (o, z)

  -- m is what was answered to the account
  module _ (m : Result ℕ Refusal) (g : passed m ≡ keeping nothing (field_at (read_account joined least) s at)) where
    some-payer : (e : ℕ) (a : Account) → found a e ≡ field_at (read_account joined least) s at → found false e ≡ keeping is_nobody (field_at (read_payer empty allzero joined least) s at)
    unfolding field_at ending keeping
    some-payer e a q =
        let v = found-value (read_account joined least) s at a e q in
        rw (
          account-payer joined least (field_of (drop at s)) a v empty allzero,
          proper-somebody a (account-sound joined least (field_of (drop at s)) a v),
          ← (found-end (read_account joined least) s at a e q),
        )

    pub found-payer : (e : ℕ) → m ≡ Ok e → found false e ≡ keeping is_nobody (field_at (read_payer empty allzero joined least) s at)
    found-payer e f = let v = was-found nothing (field_at (read_account joined least) s at) tt e (rw f at g) in some-payer e v.0 v.1

    pub other-payer : (c : Refusal) → m ≡ Err c → t ≡ false → (r : At Bool) → r ≡ keeping is_nobody (zeros_at allzero (number_of c) s at)
        → r ≡ keeping is_nobody (field_at (read_payer empty allzero joined least) s at)
    unfolding field_at read_payer zeros_at ending pick
    other-payer c f y r q =
        let z : pick empty (null (field_of (drop at s))) false ≡ false = sym k ∙ y in
        let n : read_account joined least (field_of (drop at s)) ≡ fault (number_of c) = missed-fault (read_account joined least) s at (number_of c) (was-missed nothing (field_at (read_account joined least) s at) (number_of c) (rw f at g)) in
        q ∙ ap (keeping is_nobody) (rw (z, n) (by-test (pick allzero (only_zeros (field_of (drop at s))) false) (λ u. simp u) (λ u. simp u)))

pub ruleset payers = (zeros-there, zeros-none, empty-payer, found-payer, other-payer)
