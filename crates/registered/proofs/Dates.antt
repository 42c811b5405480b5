-- The date of a first line, as it was read, and whether a loaded register is for it. Assumes nothing.
use Rattle.std.proofs.Common.{Result, Ok, Err}
use Prim.Native.Nat.{ℕ, ◌≤◌, ◌<◌}
use mathlib.Core.Path.{◌≡◌, refl, sym, ap, ◌∙◌}
use mathlib.Core.Bool.{true, false, not}
use mathlib.Core.List.{List}
use native.Mathlib.Omega.{arith}
use lib.Dec.{eqb}
use lib.ListN.{length, take, drop}
use borrow.Author.Tests.{not-true, not-false}
use Rattle.base.specs.Pick.{pick}
use Rattle.refusal.specs.declared.Refusal.{Refusal}
use Rattle.refusal.specs.Numbers.{number_of}
use Rattle.refusal.specs.Placed.{placed}
use Rattle.paper.specs.Days.{short_day, read_day}
use Rattle.paper.specs.Entries.{got, no}
use Rattle.numeral.specs.Told.{told}
use Rattle.numeral.proofs.field.Steps.{step-place}
use Rattle.firstline.proofs.Steps.{step-no-date, step-day, step-no-day}
use Rattle.register.specs.declared.Loaded.{Loaded}
use Rattle.register.specs.Register.{fits}
use Rattle.register.specs.Told.{told as told_register}
use Rattle.against.specs.Against.{day_of, is_other}

module _ (reg : Loaded) (d : ℕ) where
  fits-laid : not reg.laid ≡ false → fits (told_register reg) d ≡ eqb d reg.date
  unfolding fits pick
  fits-laid e = rw (not-false reg.laid e)

  fits-none : not reg.laid ≡ true → fits (told_register reg) d ≡ false
  unfolding fits pick
  fits-none e = rw (not-true reg.laid e)

module _ (s : List ℕ) (reg : Loaded) where
  -- the line ends before the date does
  pub no-date : length s < 10 → false ≡ is_other (told_register reg) (day_of s)
  unfolding day_of is_other
  no-date h = ap (is_other (told_register reg)) (step-no-date (no 4 4) short_day s _ h refl)

  -- m is what the reader of dates answered
  module _ (m : Result ℕ Refusal) (g : told m ≡ read_day false (take 6 (drop 4 s))) (long : 10 ≤ length s) where
    at_4 : (x : Result ℕ Refusal) → m ≡ x → placed m 4 ≡ placed x 4
    at_4 x e = ap (λ (n : Result ℕ Refusal). placed n 4) e

    read-as : (d : ℕ) → m ≡ Ok d → got d ≡ day_of s
    unfolding day_of
    read-as d e = step-place (got d) 6 short_day s 4 _ (omega arith) (step-day (got d) 4 _ m (placed m 4) refl (take 6 (drop 4 s)) g d (at_4 (Ok d) e) refl)

    unread-as : (c : Refusal) → m ≡ Err c → no (number_of c) 4 ≡ day_of s
    unfolding day_of
    unread-as c e =
        step-place (no (number_of c) 4) 6 short_day s 4 _ (omega arith)
        (step-no-day (no (number_of c) 4) 4 _ m (placed m 4) refl (take 6 (drop 4 s)) g (record { 0 = c; 1 = 4 }) (at_4 (Err c) e) refl)

    -- it cannot be read
    pub date-unread : (c : Refusal) → m ≡ Err c → false ≡ is_other (told_register reg) (day_of s)
    unfolding is_other
    date-unread c e = ap (is_other (told_register reg)) (unread-as c e)

    -- it is compared with the register's
    pub date-read : (d : ℕ) → m ≡ Ok d → not reg.laid ≡ false → not (eqb d reg.date) ≡ is_other (told_register reg) (day_of s)
    unfolding is_other
    date-read d e laid = ap not (sym (fits-laid reg d laid)) ∙ ap (is_other (told_register reg)) (read-as d e)

    -- a malformed register is for no day
    pub date-malformed : (d : ℕ) → m ≡ Ok d → not reg.laid ≡ true → not reg.laid ≡ is_other (told_register reg) (day_of s)
    unfolding is_other
    date-malformed d e none = none ∙ ap not (sym (fits-none reg d none)) ∙ ap (is_other (told_register reg)) (read-as d e)

pub ruleset dates = (no-date, date-unread, date-read, date-malformed)
