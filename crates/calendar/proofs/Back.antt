-- A day that is spelled reads back as itself, and its spelling is six digits. Assumes nothing.
use mathlib.Core.Path.{◌≡◌, refl, ◌∙◌}
use mathlib.Core.Bool.{Bool, true, false}
use Prim.Native.Nat.{ℕ, ◌+◌, ◌*◌, ◌/◌, ◌%◌, ◌^◌, ◌≤◌, ◌<◌}
use native.Mathlib.Omega.{arith}
use lib.ListN.{length}
use Rattle.base.specs.Pick.{pick}
use Rattle.base.specs.Seek.{all}
use Rattle.paper.specs.Bytes.{is_digit}
use Rattle.paper.specs.Read.{value, given}
use Rattle.paper.specs.Days.{year_of, month_of, day_of, real_day, real, short_day, long_day, read_day, spell_day, due_allowed, read_due}
use Rattle.numeral.proofs.Fixed.{fixed-length}
use Rattle.numeral.proofs.Plain.{fixed_plain}
use Rattle.numeral.proofs.Back.{fixed_back}
use Rattle.calendar.proofs.Real.{parts}

-- DDMMRR as a number, and its parts
abbrev joined : ℕ → ℕ → ℕ → ℕ
joined a b c = a * 10000 + b * 100 + c

module _ (a b c : ℕ) where
  six-digits : a < 100 → b < 100 → c < 100 → joined a b c < 10 ^ 6
  six-digits g h k = omega arith

  module _ (h : b < 100) (k : c < 100) where
    part-a : joined a b c / 10000 ≡ a
    part-a = omega arith

    part-b : joined a b c / 100 % 100 ≡ b
    part-b = omega arith

    part_c : joined a b c % 100 ≡ c
    part_c = omega arith

same-day : (d : ℕ) → 2000 ≤ year_of d → year_of d ≤ 2099 → (2000 + year_of d % 100) * 10000 + month_of d * 100 + day_of d ≡ d
same-day d h k = omega arith

module _ (d : ℕ) where
  pub spell-day-length : length (spell_day d) ≡ 6
  unfolding spell_day
  spell-day-length = fixed-length 6 _

  pub spell-day-plain : all is_digit (spell_day d) ≡ true
  unfolding spell_day
  spell-day-plain = fixed_plain 6 _

  module _ (r : real_day d ≡ true) (long : Bool) where
    spelled-short : short_day (spell_day d) ≡ value d
    unfolding short_day spell_day given real pick
    spelled-short =
        let p = parts d r in
        let y : year_of d % 100 < 100 = omega arith in
        let m : month_of d < 100 = omega arith in
        let whole : (2000 + year_of d % 100) * 10000 + month_of d * 100 + day_of d ≡ d = same-day d p.from p.to in
        rw (
          fixed_back 6 (joined (day_of d) (month_of d) (year_of d % 100)) (six-digits (day_of d) (month_of d) (year_of d % 100) (omega arith) m y),
          part_c (day_of d) (month_of d) (year_of d % 100) m y,
          part-b (day_of d) (month_of d) (year_of d % 100) m y,
          part-a (day_of d) (month_of d) (year_of d % 100) m y,
          whole,
          r,
        )

    pub day-back : read_day long (spell_day d) ≡ value d
    unfolding read_day pick
    day-back = rw spell-day-length (six long ∙ spelled-short)
      where
        six : (b : Bool) → pick (pick b false false) (long_day (spell_day d)) (short_day (spell_day d)) ≡ short_day (spell_day d)
        six true = refl
        six false = refl

    pub due-back : (here early : Bool) (ahead today : ℕ) → due_allowed here early ahead today d ≡ true → read_due long here early ahead today (spell_day d) ≡ value d
    unfolding read_due given pick
    due-back here early ahead today h = rw (day-back, h)
