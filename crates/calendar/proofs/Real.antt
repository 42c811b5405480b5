-- What a real day is made of, and in which years there is a 29 February. Assumes nothing.
use mathlib.Core.Path.{◌≡◌, ◌∙◌}
use mathlib.Core.Bool.{true}
use Prim.Native.Nat.{ℕ, ◌%◌, ◌≤◌}
use native.Mathlib.Omega.{arith}
use lib.Dec.{eqb, leb}
use borrow.Author.Tests.{ltb-false, leb-true, le-ltb, le-leb, eq-eqb, ne_eqb}
use Rattle.base.specs.Pick.{pick}
use Rattle.base.proofs.Cases.{by-eq, picks, pick-not}
use Rattle.paper.specs.Days.{leap, month_days, real_day, year_of, month_of, day_of}

-- the parts of a real day
pub record Parts (d : ℕ) : Type 0 where
  pub from : 2000 ≤ year_of d
  pub to : year_of d ≤ 2099
  pub first : 1 ≤ month_of d
  pub last : month_of d ≤ 12
  pub low : 1 ≤ day_of d
  pub high : day_of d ≤ month_days (year_of d) (month_of d)

pub parts : (d : ℕ) → real_day d ≡ true → Parts d
unfolding real_day
parts d r =
    let a = pick-not _ _ r in
    let b = pick-not _ _ a.1 in
    let e = pick-not _ _ b.1 in
    let f = pick-not _ _ e.1 in
    let g = pick-not _ _ f.1 in
    record {
      from = ltb-false _ _ a.0;
      to = ltb-false _ _ b.0;
      first = ltb-false _ _ e.0;
      last = ltb-false _ _ f.0;
      low = ltb-false _ _ g.0;
      high = leb-true _ _ g.1;
    }

-- and such parts make a real day
pub whole : (d : ℕ) → Parts d → real_day d ≡ true
unfolding real_day pick
whole d p = simp (le-ltb _ _ p.from, le-ltb _ _ p.to, le-ltb _ _ p.first, le-ltb _ _ p.last, le-ltb _ _ p.low, le-leb _ _ p.high)

-- from 2000 to 2099 every fourth year has 29 February
pub leap-four : (y : ℕ) → 2000 ≤ y → y ≤ 2099 → leap y ≡ eqb (y % 4) 0
unfolding leap pick
leap-four y h k =
    by-eq (y % 100) 0
    (λ e. let z : y ≡ 2000 = omega arith in rw z)
    (λ n. simp (ne_eqb _ _ n))

-- One step of the code's answer r through the test of a leap year.
module _ (r a b y : ℕ) (h : 2000 ≤ y) (k : y ≤ 2099) where
  pub step-leap : y % 4 ≡ 0 → r ≡ a → r ≡ pick (leap y) a b
  unfolding pick
  step-leap e f = f ∙ simp (leap-four y h k, eq-eqb _ _ e)

  pub step-plain : (y % 4 ≡ 0 → ⊥) → r ≡ b → r ≡ pick (leap y) a b
  unfolding pick
  step-plain n f = f ∙ simp (leap-four y h k, ne_eqb _ _ n)

-- a test of an answer is the test of what it equals
pub same_test : (n a b : ℕ) → a ≡ b → leb n a ≡ leb n b
same_test n a b e = rw e

pub ruleset real-steps = (step-leap, step-plain, same_test, picks)
