-- A line that begins with an account is an item's. Assumes nothing.
use mathlib.Core.Path.{◌≡◌, sym, ◌∙◌}
use mathlib.Core.Bool.{true, false}
use mathlib.Core.List.{List, [], ◌∷◌, ◌++◌}
use Prim.Native.Nat.{ℕ, ◌≤◌}
use native.Mathlib.Omega.{arith}
use lib.Dec.{eqb}
use lib.ListN.{length}
use borrow.Author.Tests.{eqb-true, ne_eqb}
use Rattle.base.specs.Pick.{pick}
use Rattle.base.specs.Seek.{all, starts}
use Rattle.base.proofs.Cases.{by-test, pick-false}
use Rattle.base.proofs.Seek.{all_head, all_tail}
use Rattle.paper.specs.Bytes.{is_digit}
use Rattle.paper.specs.Accounts.{Account, account_proper, spell_account}
use Rattle.paper.specs.Entries.{item_line, kind_of}
use Rattle.numeral.proofs.Plain.{digit-range}
use Rattle.account.specs.Bytes.{is_account_byte}
use Rattle.account.proofs.Plain.{spell-account-plain}
use Rattle.account.proofs.Back.{spell-account-least}

-- a dash or a digit
pub account-range : (x : ℕ) → is_account_byte x ≡ true → (45 ≤ x) × (x ≤ 57)
unfolding is_account_byte
account-range x h =
    by-test (is_digit x)
    (λ e. let r = digit-range x e in (omega (arith, r.0), r.1))
    (λ e. let q : x ≡ 45 = eqb-true x 45 (sym (pick-false true (eqb x 45) e) ∙ h) in (omega arith, omega arith))

-- no pattern of two bytes stands where the second byte differs
second-not : (p q x y : ℕ) (r : List ℕ) → eqb y q ≡ false → starts (p ∷ q ∷ []) (x ∷ y ∷ r) ≡ false
unfolding starts pick
second-not p q x y r e = by-test (eqb x p) (λ f. simp (f, e)) (λ f. simp f)

first-not : (p x : ℕ) (ps r : List ℕ) → eqb x p ≡ false → starts (p ∷ ps) (x ∷ r) ≡ false
unfolding starts
first-not p x ps r e = pick-false _ _ e

kind-item : (x y : ℕ) (r : List ℕ) → is_account_byte x ≡ true → is_account_byte y ≡ true → kind_of (x ∷ y ∷ r) ≡ item_line
unfolding kind_of pick
kind-item x y r h k =
    let a = account-range x h in
    let b = account-range y k in
    let sp : eqb y 32 ≡ false = ne_eqb y 32 (λ e. omega (arith, b.0)) in
    let pl : eqb y 43 ≡ false = ne_eqb y 43 (λ e. omega (arith, b.0)) in
    rw (
      first-not 85 x (72 ∷ 76 ∷ 49 ∷ []) (y ∷ r) (ne_eqb x 85 (λ e. omega (arith, a.1))),
      second-not 49 32 x y r sp,
      second-not 50 32 x y r sp,
      second-not 51 32 x y r sp,
      second-not 51 43 x y r pl,
      second-not 53 32 x y r sp,
      second-not 53 43 x y r pl,
    )

kind-bytes : (s r : List ℕ) → 2 ≤ length s → all is_account_byte s ≡ true → kind_of (s ++ r) ≡ item_line
kind-bytes [] r l h = absurd (omega arith)
kind-bytes (x ∷ []) r l h = absurd (omega arith)
kind-bytes (x ∷ y ∷ s) r l h =
    kind-item x y (s ++ r) (all_head is_account_byte x (y ∷ s) h) (all_head is_account_byte y s (all_tail is_account_byte x (y ∷ s) h))

pub kind-account : (a : Account) → account_proper a ≡ true → (r : List ℕ) → kind_of (spell_account a ++ r) ≡ item_line
kind-account a h r = kind-bytes (spell_account a) r (spell-account-least a h) (spell-account-plain a)
