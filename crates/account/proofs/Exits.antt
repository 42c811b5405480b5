-- The answers of `only_zeros`, with what the code knows at each, and an account with no dash. Assumes nothing.
use mathlib.Core.Path.{◌≡◌, sym, ◌∙◌}
use mathlib.Core.Bool.{Bool, true, false, not}
use mathlib.Core.List.{List}
use Prim.Native.Nat.{ℕ, ◌+◌, ◌-◌, ◌≤◌, ◌<◌}
use native.Mathlib.Omega.{arith}
use lib.Dec.{ltb}
use lib.ListN.{length, take, drop, length-drop}
use lib.Seq.{take_all}
use borrow.Author.Tests.{lt-ltb, le-ltb, not-true, not-false}
use Rattle.base.specs.Pick.{pick}
use Rattle.base.specs.Seek.{seek, before}
use Rattle.base.proofs.Cases.{pick_true, pick-false}
use Rattle.paper.specs.Bytes.{dash}
use Rattle.paper.specs.Accounts.{two_parts, one_part, read_account, zeros, only_zeros}

-- a field with no dash
pub no-dash : (joined : Bool) (least : ℕ) (f : List ℕ) → length f ≤ seek dash f → read_account joined least f ≡ pick (pick joined (ltb 10 (length f)) false) (two_parts 10 (take (length f - 10) f) (drop (length f - 10) f)) (one_part least f)
unfolding read_account
no-dash joined least f h = pick-false _ _ (le-ltb (seek dash f) (length f) h)

-- the field f, and d where its dash was found
module _ (f : List ℕ) (d : ℕ) (e : d ≡ 0 + seek dash f) where
  pub place : seek dash f ≡ d
  place = omega arith

  pub front : take (d - 0) f ≡ before dash f
  front = let z : d - 0 ≡ seek dash f = omega arith in rw z

  pub behind : take (length f - (d + 1)) (drop (d + 1) f) ≡ drop (seek dash f + 1) f
  behind = rw place (take_all (length f - (d + 1)) (drop (d + 1) f) (omega (arith, length-drop (d + 1) f)))

  -- `only_zeros`
  module _ (allzero : Bool) (a : not allzero ≡ false) where
    pub zeros-plain : length f ≤ d → (r : Bool) → r ≡ zeros 17 f → r ≡ pick allzero (only_zeros f) false
    unfolding only_zeros
    zeros-plain h r g = g ∙ sym (pick_true _ _ (not-false allzero a) ∙ rw place (pick-false _ _ (le-ltb d (length f) h)))

    module _ (h : d < length f) (t : Bool) (g : t ≡ zeros 6 (take (d - 0) f)) where
      zeros-is : pick allzero (only_zeros f) false ≡ pick t (zeros 10 (drop (seek dash f + 1) f)) false
      unfolding only_zeros
      zeros-is = pick_true _ _ (not-false allzero a) ∙ rw (g, front) (pick_true _ _ (lt-ltb (seek dash f) (length f) (omega arith)))

      pub zeros-both : t ≡ true → (r : Bool) → r ≡ zeros 10 (take (length f - (d + 1)) (drop (d + 1) f)) → r ≡ pick allzero (only_zeros f) false
      zeros-both k r q = q ∙ rw behind (sym (zeros-is ∙ pick_true _ _ k))

      pub zeros-front : t ≡ false → false ≡ pick allzero (only_zeros f) false
      zeros-front k = sym (zeros-is ∙ pick-false _ _ k)

-- what is not looked for
pub unasked : (allzero t : Bool) → not allzero ≡ true → false ≡ pick allzero t false
unasked allzero t e = sym (pick-false _ _ (not-true allzero e))

pub ruleset exits = (zeros-plain, zeros-both, zeros-front, unasked)
