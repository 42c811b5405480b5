-- Accounts and payers: their numbers are those that their field spells. Assumes nothing.
use mathlib.Core.Path.{◌≡◌, refl, sym, ap, ◌∙◌}
use mathlib.Core.Bool.{Bool, true, false}
use mathlib.Core.List.{List, [], ◌∷◌}
use Prim.Native.Nat.{ℕ, ◌+◌, ◌-◌, ◌/◌, ◌%◌, ◌≤◌, ◌<◌}
use native.Mathlib.Omega.{arith}
use lib.Dec.{eqb, ltb}
use lib.ListN.{length, take, drop, length-append, take-append-drop}
use borrow.Author.Tests.{eqb-true, lt-ltb, le-ltb}
use Rattle.base.specs.Pick.{pick}
use Rattle.base.specs.Seek.{all, seek, before}
use Rattle.base.proofs.Cases.{by-test, by-lt, pick_true, pick-false, pick-not, pick-both}
use Rattle.base.proofs.Seek.{never, all_head, all_tail, all_append}
use Rattle.paper.specs.Read.{Field, value, given}
use Rattle.paper.specs.Bytes.{is_digit, dash, field_of, null}
use Rattle.paper.specs.Numerals.{digits_on, digits}
use Rattle.paper.specs.Accounts.{Account, account, nobody, account_ok, ruled, two_parts, one_part, read_account, zeros, only_zeros, read_payer}
use Rattle.paper.specs.ItemLine.{is_value}
use Rattle.numeral.proofs.Sound.{digits-plain, digits-most, digits-sound, digits-reads}
use Rattle.numeral.proofs.given.Given.{value-fault, value_same, given-value}
use Rattle.numeral.specs.field.At.{At, field_at}
use Rattle.account.specs.at.Parts.{undashed}
use Rattle.account.proofs.at.Digits.{recount, undashed-is}
use Rattle.numeral.specs.placed.Known.{There}
use Rattle.account.specs.at.Numbers.{prefix_and_base}
use Rattle.numeral.proofs.placed.Parts.{some-value}

-- the rule leaves an account as it is
ruled-same : (p b : ℕ) (a : Account) → ruled p b ≡ value a → a ≡ account p b
unfolding ruled pick
ruled-same p b a e = by-test (account_ok p b) (λ t. sym (value_same _ _ (simp t at e))) (λ t. value-fault a 5 (sym (simp t at e)))

both : (least : ℕ) (p b : List ℕ) (a : Account) → two_parts least p b ≡ value a
    → (u : ℕ) × (v : ℕ) × (digits 1 6 p ≡ value u) × (digits least 10 b ≡ value v) × (a ≡ account u v)
unfolding two_parts
both least p b a e =
    let x = given-value (λ prefix. given (digits least 10 b) λ base. ruled prefix base) (digits 1 6 p) a e in
    let y = given-value (λ base. ruled x.0 base) (digits least 10 b) a x.2 in
    (x.0, y.0, x.1, y.1, ruled-same x.0 y.0 a y.2)

-- digits alone: up to ten are a base
undashed-same : (joined : Bool) (least n v : ℕ) (a : Account) → (n ≤ 10 → v < 10000000000) → undashed joined least n v ≡ value a
    → a ≡ account (v / 10000000000) (v % 10000000000)
unfolding undashed pick
undashed-same joined least n v a small e =
    by-lt 10 n
    (λ l. by-test joined
    (λ j. ruled-same _ _ a (simp (lt-ltb 10 n l, j) at e))
    (λ j. value-fault a 4 (sym (simp (lt-ltb 10 n l, j) at e))))
    (λ l. by-test (ltb n least)
    (λ t. value-fault a 4 (sym (simp (le-ltb 10 n l, t) at e)))
    (λ t.
    let b : v < 10000000000 = small l in
    let x : v / 10000000000 ≡ 0 = omega arith in
    let y : v % 10000000000 ≡ v = omega arith in
    rw (x, y) (ruled-same 0 v a (simp (le-ltb 10 n l, t) at e))))

-- ---- an account's numbers are those that its field spells

module _ (joined : Bool) (least : ℕ) (w : List ℕ) (a : Account) (e : read_account joined least w ≡ value a) where
  -- with no dash they are digits alone,
  module _ (t : ltb (seek dash w) (length w) ≡ false) where
    alone : all is_digit w ≡ true → length w ≤ 16 → prefix_and_base w ≡ value a
    unfolding prefix_and_base given
    alone d l =
        let x = digits-reads 0 16 w d (omega arith) l in
        let i =
        undashed-same joined least (length w) x.0 a
        (λ k. digits-sound 0 10 w x.0 (recount 0 16 0 10 w x.0 x.1 (omega arith) k))
        (undashed-is w x.0 x.1 joined least ∙ e) in
        pick-false _ _ t ∙ rw (recount 0 16 0 17 w x.0 x.1 (omega arith) (omega arith)) (ap (λ (b : Account). value b) (sym i))

    abbrev front : List ℕ
    front = take (length w - 10) w

    abbrev back : List ℕ
    back = drop (length w - 10) w

    joined-alone : two_parts 10 front back ≡ value a → prefix_and_base w ≡ value a
    joined-alone f =
        let x = both 10 front back a f in
        alone
        (rw (take-append-drop (length w - 10) w) at (all_append is_digit front back (digits-plain 1 6 front x.0 x.2) (digits-plain 10 10 back x.1 x.3)))
        (omega (arith, digits-most 1 6 front x.0 x.2, digits-most 10 10 back x.1 x.3, ap length (take-append-drop (length w - 10) w), length-append front back))

    base-alone : one_part least w ≡ value a → prefix_and_base w ≡ value a
    unfolding one_part
    base-alone f =
        let x = given-value (λ base. ruled 0 base) (digits least 10 w) a f in
        alone (digits-plain least 10 w x.0 x.1) (omega (arith, digits-most least 10 w x.0 x.1))

  -- with one they are a prefix and a base
  with-dash : ltb (seek dash w) (length w) ≡ true → two_parts least (before dash w) (drop (seek dash w + 1) w) ≡ value a → prefix_and_base w ≡ value a
  unfolding prefix_and_base given
  with-dash t f =
      let x = both least _ _ a f in
      pick_true _ _ t ∙ rw (x.2, recount least 10 0 10 _ x.1 x.3 (omega arith) (digits-most least 10 _ x.1 x.3)) (ap (λ (b : Account). value b) (sym x.4))

  pub account-numbers : prefix_and_base w ≡ value a
  unfolding read_account pick
  account-numbers =
      by-test (ltb (seek dash w) (length w))
      (λ t. with-dash t (simp t at e))
      (λ t. by-test (pick joined (ltb 10 (length w)) false)
      (λ u. joined-alone t (simp (t, u) at e))
      (λ u. base-alone t (simp (t, u) at e)))

-- ---- and so are a payer's

zeros-on : (s : List ℕ) → all (λ x. eqb x 48) s ≡ true → digits_on 0 s ≡ value 0
unfolding digits_on is_digit pick
zeros-on [] h = refl
zeros-on (x ∷ s) h = let e : x ≡ 48 = eqb-true x 48 (all_head (λ x. eqb x 48) x s h) in rw e (zeros-on s (all_tail (λ x. eqb x 48) x s h))

-- up to so many zeros are the number 0
zeros-number : (most : ℕ) (s : List ℕ) → zeros most s ≡ true → digits 1 most s ≡ value 0
unfolding zeros digits
zeros-number most s h =
    let x = pick-not (ltb (length s) 1) _ h in
    let y = pick-not (ltb most (length s)) _ x.1 in
    pick-false _ _ x.0 ∙ (pick-false _ _ y.0 ∙ zeros-on s y.1)

zeros-numbers : (w : List ℕ) → only_zeros w ≡ true → prefix_and_base w ≡ value nobody
unfolding only_zeros prefix_and_base given pick
zeros-numbers w h =
    by-test (ltb (seek dash w) (length w))
    (λ t.
    let x = pick-both (zeros 6 (before dash w)) _ (simp t at h) in
    let y = zeros-number 10 (drop (seek dash w + 1) w) x.1 in
    simp (t, zeros-number 6 (before dash w) x.0, recount 1 10 0 10 _ 0 y (omega arith) (digits-most 1 10 _ 0 y)))
    (λ t.
    let y = zeros-number 17 w (simp t at h) in
    simp (t, recount 1 17 0 17 w 0 y (omega arith) (digits-most 1 17 w 0 y)))

empty-numbers : (w : List ℕ) → null w ≡ true → prefix_and_base w ≡ value nobody
unfolding null prefix_and_base given pick seek digits digits_on
empty-numbers [] h = refl
empty-numbers (x ∷ w) h = never (sym h)

payer-numbers : (empty allzero joined : Bool) (least : ℕ) (w : List ℕ) (a : Account) → read_payer empty allzero joined least w ≡ value a → prefix_and_base w ≡ value a
unfolding read_payer pick
payer-numbers empty allzero joined least w a e =
    by-test (pick empty (null w) false)
    (λ t. empty-numbers w (pick-both empty (null w) t).1 ∙ simp t at e)
    (λ t. by-test (pick allzero (only_zeros w) false)
    (λ u. zeros-numbers w (pick-both allzero (only_zeros w) u).1 ∙ simp (t, u) at e)
    (λ u. account-numbers joined least w a (simp (t, u) at e)))

-- ---- at a place

module _ (read : List ℕ → Field Account) (n : (w : List ℕ) (a : Account) → read w ≡ value a → prefix_and_base w ≡ value a) (s : List ℕ) (at : ℕ) (h : There read s at) where
  abbrev w : List ℕ
  w = field_of (drop at s)

  there : (a : Account) × (read w ≡ value a)
  there = some-value (read w) h.says

  spelled : prefix_and_base w ≡ value there.0
  spelled = n w there.0 there.1

  stands : There prefix_and_base s at
  unfolding is_value
  stands = record { says = rw spelled; on = h.on }

  told-as : (r : At Account) → r ≡ field_at prefix_and_base s at → r ≡ field_at read s at
  unfolding field_at
  told-as r e = e ∙ rw (spelled, there.1)

module _ (joined : Bool) (least : ℕ) (s : List ℕ) (at : ℕ) (h : There (read_account joined least) s at) where
  pub account-there : There prefix_and_base s at
  account-there = stands (read_account joined least) (account-numbers joined least) s at h

  pub account-told : (r : At Account) → r ≡ field_at prefix_and_base s at → r ≡ field_at (read_account joined least) s at
  account-told = told-as (read_account joined least) (account-numbers joined least) s at h

module _ (empty allzero joined : Bool) (least : ℕ) (s : List ℕ) (at : ℕ) (h : There (read_payer empty allzero joined least) s at) where
  pub payer-there : There prefix_and_base s at
  payer-there = stands (read_payer empty allzero joined least) (payer-numbers empty allzero joined least) s at h

  pub payer-told : (r : At Account) → r ≡ field_at prefix_and_base s at → r ≡ field_at (read_payer empty allzero joined least) s at
  payer-told = told-as (read_payer empty allzero joined least) (payer-numbers empty allzero joined least) s at h

pub ruleset accounts = (account-there, account-told, payer-there, payer-told)
