-- A text that lies inside what was lent is what stands there. Assumes nothing.
use mathlib.Core.Path.{◌≡◌, sym, ◌∙◌}
use mathlib.Core.Bool.{Bool, true, false}
use mathlib.Core.List.{List}
use Prim.Native.Nat.{ℕ, ◌+◌, ◌≤◌, ◌<◌, ◌-◌}
use native.Mathlib.Omega.{arith}
use lib.Dec.{leb}
use lib.ListN.{length, take, drop}
use borrow.Author.Tests.{le-leb, lt-leb, leb-true}
use Rattle.base.proofs.Cases.{pick_true, by-lt}
use Rattle.base.proofs.Lists.{drop-take}
use Rattle.text.specs.declared.span.Span.{Span}
use Rattle.rows.specs.read.Told.{text_of_span}
use Rattle.text.specs.span.Held.{Within}

-- the lent bytes up to a place, as the code cuts them, from another place on
pub upto_is : (t : List ℕ) (from to : ℕ) → drop from (take (to - 0) (drop 0 t)) ≡ take (to - from) (drop from t)
upto_is t from to = let e : to - 0 ≡ to = omega arith in rw (e, drop-take from to t)

module _ (t : List ℕ) (p : Span) where
  pub text-in : leb (p.at + p.len) (length t) ≡ true → text_of_span t p ≡ take p.len (drop p.at t)
  unfolding text_of_span
  text-in e = pick_true _ _ e

  pub text-within : Within t p → text_of_span t p ≡ take p.len (drop p.at t)
  text-within h = text-in (le-leb _ _ h)

  -- as the code cuts it
  pub cut-is : Within t p → take (p.at + p.len - p.at) (drop p.at t) ≡ text_of_span t p
  cut-is h = let e : p.at + p.len - p.at ≡ p.len = omega arith in rw e (sym (text-within h))

  -- .. with all that is lent before it
  pub front-is : Within t p → drop p.at (take (p.at + p.len - 0) (drop 0 t)) ≡ text_of_span t p
  front-is h = upto_is t p.at (p.at + p.len) ∙ cut-is h

-- the code's test, which adds nothing
pub lies-apart : (at len n : ℕ) → len ≤ n → leb at (n - len) ≡ leb (at + len) n
lies-apart at len n h =
    by-lt n (at + len)
    (λ l. let a : n - len < at = omega arith in rw (lt-leb (at + len) n l, lt-leb at (n - len) a))
    (λ l. let a : at ≤ n - len = omega arith in rw (le-leb (at + len) n l, le-leb at (n - len) a))

pub lies_out : (at len n : ℕ) → n < len → false ≡ leb (at + len) n
lies_out at len n h = sym (lt-leb (at + len) n (omega arith))

-- what its answer gives
pub lies_in : (a n : ℕ) (l : Bool) → l ≡ leb a n → l ≡ true → a ≤ n
lies_in a n l e h = leb-true a n (sym e ∙ h)
