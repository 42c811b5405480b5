-- The answers about due days, from the code's tests. Assumes nothing.
use mathlib.Core.Path.{◌≡◌, refl, sym}
use mathlib.Core.Bool.{Bool, true, false}
use Prim.Native.Nat.{ℕ, ◌-◌, ◌≤◌, ◌<◌}
use native.Mathlib.Omega.{arith}
use lib.Dec.{leb}
use borrow.Author.Tests.{lt-ltb, le-ltb, le-leb}
use Rattle.base.specs.Pick.{pick}
use Rattle.paper.specs.Days.{past, due_allowed, due_warnings, day_number, real_day}
use Rattle.calendar.proofs.Order.{later, not-later}
use Rattle.calendar.proofs.Steep.{no-faster}

-- where a day is not judged, every one passes
pub due-elsewhere : (today d : ℕ) (here early : Bool) (ahead : ℕ) → here ≡ false → true ≡ due_allowed here early ahead today d
unfolding due_allowed pick
due-elsewhere today d here early ahead e = rw e

module _ (today d : ℕ) (s : real_day today ≡ true) (r : real_day d ≡ true) where
  -- a day before today
  module _ (h : d < today) where
    is-past : past today d ≡ true
    unfolding past
    is-past = lt-ltb _ _ (later d today r s h)

    pub due-early : (here early : Bool) (ahead : ℕ) → here ≡ true → early ≡ due_allowed here early ahead today d
    unfolding due_allowed pick
    due-early here early ahead i = rw (i, is-past)

    pub warned : (here warns : Bool) → warns ≡ true → here ≡ true → 1 ≡ due_warnings here warns today d
    unfolding due_warnings pick
    warned here warns e i = rw (i, is-past, e)

    pub not-warned : (here warns : Bool) → warns ≡ false → 0 ≡ due_warnings here warns today d
    unfolding due_warnings pick
    not-warned true warns e = rw (is-past, e)
    not-warned false warns e = refl

    pub warned-elsewhere : (here warns : Bool) → here ≡ false → 0 ≡ due_warnings here warns today d
    unfolding due_warnings pick
    warned-elsewhere here warns i = rw i

  -- today or a day ahead
  module _ (h : today ≤ d) where
    not-past : past today d ≡ false
    unfolding past
    not-past = le-ltb _ _ (not-later d today r s h)

    pub none-warned : (here warns : Bool) → 0 ≡ due_warnings here warns today d
    unfolding due_warnings pick
    none-warned true warns = rw not-past
    none-warned false warns = refl

    pub due-soon : (here early : Bool) (ahead : ℕ) → here ≡ true → d - today ≤ ahead → true ≡ due_allowed here early ahead today d
    unfolding due_allowed pick
    due-soon here early ahead i k = rw (i, not-past) (sym (le-leb (day_number d - day_number today) ahead (omega (arith, no-faster today d s r h))))

    -- n and t are the numbers of the two days
    module _ (n t : ℕ) (e : n ≡ day_number d) (f : t ≡ day_number today) where
      pub due-less : t ≤ n
      due-less = omega (arith, not-later d today r s h)

      pub due-ahead : (here early : Bool) (ahead : ℕ) → here ≡ true → leb (n - t) ahead ≡ due_allowed here early ahead today d
      unfolding due_allowed pick
      due-ahead here early ahead i = rw (i, not-past, e, f)

pub ruleset dues = (due-elsewhere, due-early, warned, not-warned, warned-elsewhere, none-warned, due-soon, due-less, due-ahead)
