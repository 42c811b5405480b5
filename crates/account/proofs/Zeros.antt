-- A field with only zeros, or an empty one, is no account; so an account is a payer, whatever else may stand for nobody. Assumes nothing.
use mathlib.Core.Path.{◌≡◌, refl, sym, ◌∙◌}
use mathlib.Core.Bool.{Bool, true, false}
use mathlib.Core.List.{List, [], ◌∷◌}
use Prim.Native.Nat.{ℕ, ◌+◌, ◌-◌}
use lib.Dec.{ltb}
use lib.ListN.{length, take, drop}
use borrow.Author.Tests.{eqb-true}
use Rattle.base.specs.Pick.{pick}
use Rattle.base.specs.Seek.{all, seek, before}
use Rattle.base.proofs.Cases.{by-test, either, pick-both, pick-false}
use Rattle.base.proofs.Seek.{never, all_head, all_tail, all_take, all_drop}
use Rattle.numeral.proofs.given.Given.{value-fault, value_same, given-value}
use Rattle.paper.specs.Read.{value, fault}
use Rattle.paper.specs.Bytes.{is_digit, dash, null}
use Rattle.paper.specs.Numerals.{digits_on, digits}
use Rattle.paper.specs.Accounts.{Account, rest, non_zero, account_ok, ruled, two_parts, one_part, read_account, zeros, only_zeros, read_payer}
use Rattle.numeral.specs.Zero.{is_zero}
use Rattle.account.specs.Parts.{with_base}

-- zeros read as 0
zeros-on : (s : List ℕ) → all is_zero s ≡ true → digits_on 0 s ≡ value 0
unfolding digits_on is_digit pick
zeros-on [] h = refl
zeros-on (x ∷ s) h = let e : x ≡ 48 = eqb-true x 48 (all_head is_zero x s h) in rw e (zeros-on s (all_tail is_zero x s h))

-- so they say 0, if they say a number
zeros-say : (least most : ℕ) (s : List ℕ) → all is_zero s ≡ true → (n : ℕ) → digits least most s ≡ value n → n ≡ 0
unfolding digits
zeros-say least most s h =
    either (λ x. (n : ℕ) → x ≡ value n → n ≡ 0) (ltb (length s) least)
    (λ e n f. value-fault n 4 (sym f))
    (λ e. either (λ x. (n : ℕ) → x ≡ value n → n ≡ 0) (ltb most (length s))
    (λ g n f. value-fault n 4 (sym f))
    (λ g n f. value_same n 0 (sym f ∙ zeros-on s h)))

-- and prefix 0, base 0 breaks the rule
broken : ruled 0 0 ≡ fault 5
unfolding ruled account_ok rest non_zero pick
broken = refl

no-base : (least : ℕ) (b : List ℕ) (a : Account) → all is_zero b ≡ true → with_base least 0 b ≡ value a → ⊥
unfolding with_base
no-base least b a h e =
    let g = given-value (λ base. ruled 0 base) (digits least 10 b) a e in
    let z : g.0 ≡ 0 = zeros-say least 10 b h g.0 g.1 in
    value-fault a 5 (sym (rw z at g.2) ∙ broken)

no-parts : (least : ℕ) (p b : List ℕ) (a : Account) → all is_zero p ≡ true → all is_zero b ≡ true → two_parts least p b ≡ value a → ⊥
unfolding two_parts with_base
no-parts least p b a h k e =
    let g = given-value (λ prefix. with_base least prefix b) (digits 1 6 p) a e in
    let z : g.0 ≡ 0 = zeros-say 1 6 p h g.0 g.1 in
    no-base least b a k (rw z at g.2)

zeros-all : (most : ℕ) (s : List ℕ) → zeros most s ≡ true → all is_zero s ≡ true
unfolding zeros
zeros-all most s =
    either (λ x. x ≡ true → all is_zero s ≡ true) (ltb (length s) 1)
    (λ e f. never (sym f))
    (λ e. either (λ x. x ≡ true → all is_zero s ≡ true) (ltb most (length s)) (λ g f. never (sym f)) (λ g f. f))

zeros-none : (joined : Bool) (least : ℕ) (s : List ℕ) (a : Account) → only_zeros s ≡ true → read_account joined least s ≡ value a → ⊥
unfolding only_zeros read_account one_part pick with_base
zeros-none joined least s a h e =
    by-test (ltb (seek dash s) (length s))
    (λ t. let b = pick-both (zeros 6 (before dash s)) (zeros 10 (drop (seek dash s + 1) s)) (simp t at h) in
    no-parts least (before dash s) (drop (seek dash s + 1) s) a (zeros-all 6 (before dash s) b.0) (zeros-all 10 (drop (seek dash s + 1) s) b.1) (simp t at e))
    (λ t. let z : all is_zero s ≡ true = zeros-all 17 s (simp t at h) in
    by-test (pick joined (ltb 10 (length s)) false)
    (λ u. no-parts 10 (take (length s - 10) s) (drop (length s - 10) s) a (all_take is_zero (length s - 10) s z) (all_drop is_zero (length s - 10) s z) (simp (t, u) at e))
    (λ u. no-base least s a z (simp (t, u) at e)))

empty-none : (joined : Bool) (least : ℕ) (s : List ℕ) (a : Account) → null s ≡ true → read_account joined least s ≡ value a → ⊥
unfolding read_account one_part null seek all pick with_base
empty-none true least [] a h e = no-base least [] a refl e
empty-none false least [] a h e = no-base least [] a refl e
empty-none joined least (x ∷ s) a h e = never (sym h)

module _ (joined : Bool) (least : ℕ) (s : List ℕ) (a : Account) (e : read_account joined least s ≡ value a) where
  pub account-payer : (empty allzero : Bool) → read_payer empty allzero joined least s ≡ value a
  unfolding read_payer
  account-payer empty allzero =
      pick-false _ _ (either (λ x. x ≡ false) empty (λ w. by-test (null s) (λ o. absurd (empty-none joined least s a o e)) (λ o. o)) (λ w. refl))
      ∙ pick-false _ _ (either (λ x. x ≡ false) allzero (λ w. by-test (only_zeros s) (λ o. absurd (zeros-none joined least s a o e)) (λ o. o)) (λ w. refl))
      ∙ e
