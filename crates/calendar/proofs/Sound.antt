-- What a date and a due date say: a real day, or the refusal 4 or 11. Assumes nothing.
use mathlib.Core.Path.{◌≡◌, refl, sym, ◌∙◌}
use mathlib.Core.Bool.{Bool, true, false}
use mathlib.Core.List.{List}
use mathlib.Core.Logic.{◌⊎◌, inl, inr}
use Prim.Native.Nat.{ℕ}
use Rattle.std.proofs.Common.{Result, Ok}
use lib.Dec.{eqb}
use lib.ListN.{length}
use Rattle.base.specs.Pick.{pick}
use Rattle.base.proofs.Cases.{either}
use Rattle.refusal.specs.declared.Refusal.{Refusal}
use Rattle.paper.specs.Numerals.{digits}
use Rattle.paper.specs.Read.{value}
use Rattle.paper.specs.Days.{real_day, real, short_day, long_day, read_day, due_allowed, read_due}
use Rattle.numeral.proofs.given.Says.{Says, says, of_value, of_fault, says-value, says-given}
use Rattle.numeral.proofs.Sound.{digits-fault}
use Rattle.numeral.specs.Told.{told}

-- the refusals of a date
abbrev pub Dated : ℕ → Type 0
Dated n = (n ≡ 4) ⊎ (n ≡ 11)

-- nothing is known of the number
abbrev Any : ℕ → Type 0
Any v = v ≡ v

digits-say : (least most : ℕ) (s : List ℕ) → Says Any Dated (digits least most s)
digits-say least most s = says Any Dated (digits least most s) (λ v e. refl) (λ n e. inl (digits-fault least most s n e))

-- a day that is real
abbrev Sure : ℕ → Type 0
Sure d = real_day d ≡ true

real-say : (d : ℕ) → Says Sure Dated (real d)
unfolding real
real-say d = either (Says Sure Dated) (real_day d) (λ e. of_value Sure Dated d e) (λ e. of_fault Sure Dated 11 (inr refl))

day-says : (long : Bool) (s : List ℕ) → Says Sure Dated (read_day long s)
unfolding read_day short_day long_day
day-says long s =
    either (Says Sure Dated) (pick long (eqb (length s) 8) false)
    (λ e. says-given Any Sure Dated (digits 8 8 s) real (digits-say 8 8 s) (λ n p. real-say n))
    (λ e. says-given Any Sure Dated (digits 6 6 s) _ (digits-say 6 6 s) (λ n p. real-say _))

module _ (long : Bool) (s : List ℕ) where
  -- a date that is read is a real day
  pub day-sound : (d : ℕ) → read_day long s ≡ value d → real_day d ≡ true
  day-sound d e = says-value Sure Dated (read_day long s) (day-says long s) d e

  -- r is what the reader of a date answered
  pub day-told : (r : Result ℕ Refusal) (d : ℕ) → told r ≡ read_day long s → r ≡ Ok d → real_day d ≡ true
  day-told r d g e = day-sound d (sym g ∙ rw e)

  module _ (here early : Bool) (ahead today : ℕ) where
    abbrev Due : ℕ → Type 0
    Due d = (real_day d ≡ true) × (due_allowed here early ahead today d ≡ true)

    due-says : Says Due Dated (read_due long here early ahead today s)
    unfolding read_due
    due-says =
        says-given Sure Due Dated (read_day long s) _ (day-says long s)
        (λ d p. either (Says Due Dated) (due_allowed here early ahead today d) (λ e. of_value Due Dated d (p, e)) (λ e. of_fault Due Dated 11 (inr refl)))

    -- a due date that is read is a real day, and one of the sheet's days
    pub due-sound : (d : ℕ) → read_due long here early ahead today s ≡ value d → (real_day d ≡ true) × (due_allowed here early ahead today d ≡ true)
    due-sound d e = says-value Due Dated _ due-says d e
