-- What was allowed, in words: every wording is printable and has at most 176 bytes. Assumes nothing.
use mathlib.Core.Path.{refl}
use mathlib.Core.Bool.{Bool}
use mathlib.Core.List.{List}
use Prim.Native.Nat.{ℕ, ◌+◌}
use Rattle.base.specs.Pick.{pick}
use Rattle.sheet.specs.declared.Sheet.{Sheet}
use Rattle.paper.specs.Days.{year_of, month_of, day_of}
use Rattle.sentences.specs.Phrases.{fields, plainly}
use Rattle.sentences.specs.Allowed.{dated, ranged, some_digits, spellings, spelled_account, single_words, spelled_payer, spelled_amount, spelled_text, spelled_rest, spelled_due, spelled_as, closing_words, numbered, from_day, at_most, allowed_count, allowed_day, allowed_number, allowed}
use Rattle.sentences.proofs.Fits.{Fits, fits-none, ◌fits-then◌, fits_or, fits-words, fits_said, fits-decimal, fits-fixed}

pub fits-dated : (d : ℕ) → Fits 10 (dated d)
unfolding dated
fits-dated d =
    fits-fixed 4 (year_of d) fits-then fits-words "-" refl fits-then fits-fixed 2 (month_of d) fits-then fits-words "-" refl fits-then fits-fixed 2 (day_of d)

fits-ranged : (a b : ℕ) → Fits 44 (ranged a b)
unfolding ranged
fits-ranged a b = fits_or _ (fits-decimal a) (fits-decimal a fits-then fits-words " to " refl fits-then fits-decimal b)

fits-some-digits : (a b : ℕ) → Fits 51 (some_digits a b)
unfolding some_digits
fits-some-digits a b = fits-decimal a fits-then fits-words " to " refl fits-then fits-decimal b fits-then fits-words " digits" refl

-- ---- cause 40: how a field is spelled

fits-account : (sh : Sheet) → Fits 133 (spelled_account sh)
unfolding spelled_account
fits-account sh =
    fits-some-digits sh.basemin (pick sh.joined 16 10)
    fits-then fits-words ", or 1 to 6 digits, a dash and " refl
    fits-then fits-some-digits sh.basemin 10

fits-single : (empty zeros : Bool) → Fits 43 (single_words empty zeros)
unfolding single_words
fits-single empty zeros =
    fits_or _
    (fits_or _ (fits-words "; nothing or zeros alone for a single group" refl) (fits-words "; nothing for a single group" refl))
    (fits_or _ (fits-words "; zeros alone for a single group" refl) (fits-none {n = 0}))

fits-payer : (sh : Sheet) → Fits 176 (spelled_payer sh)
unfolding spelled_payer
fits-payer sh = fits-account sh fits-then fits-single sh.emptypayer sh.zeropayer

fits-amount : (sh : Sheet) (most : ℕ) → Fits 97 (spelled_amount sh most)
unfolding spelled_amount
fits-amount sh most =
    fits_or _
    (fits-words "1 to 14 bytes: digits, and where there is a comma, two digits behind it and one or more before it" refl)
    (fits-some-digits 1 most)

fits-text : (sh : Sheet) → Fits 68 (spelled_text sh)
unfolding spelled_text
fits-text sh =
    fits_or _ (fits-words "1 to 10 digits, or text bytes, 32 to 255 but 127, the first no space" refl)
    (fits_or _
    (fits-words "text bytes, 32 to 255 but 127, one or more, the first no space" refl)
    (fits-words "text bytes, 32 to 255 but 127" refl))

fits-rest : (short : Bool) → Fits 26 (spelled_rest short)
unfolding spelled_rest
fits-rest short = fits_or _ (fits-words "0 or 6 or 12 bytes of text" refl) (fits-words "12 bytes of text" refl)

fits-due : (long : Bool) → Fits 38 (spelled_due long)
unfolding spelled_due
fits-due long = fits-words "six digits, DDMMRR" refl fits-then fits_or _ (fits-words ", or eight, RRRRMMDD" refl) (fits-none {n = 0})

fits-spelled : (sh : Sheet) (field : ℕ) → Fits 176 (spelled_as sh field)
unfolding spelled_as
fits-spelled sh field =
    fits_or _ (fits-rest sh.short)
    (fits_or _ (fits-payer sh)
    (fits_or _ (fits-amount sh 14)
    (fits_or _ (fits-due sh.longdate)
    (fits_or _ (fits-account sh)
    (fits_or _ (fits-account sh)
    (fits_or _ (fits-amount sh sh.itemdigits)
    (fits_or _ (fits-some-digits (pick sh.fixedtail 0 1) 10)
    (fits_or _ (fits-text sh) (fits_said 18 spellings field refl)))))))))

-- ---- the other causes

fits-closing : (near : Bool) (field : ℕ) → Fits 9 (closing_words near field)
unfolding closing_words
fits-closing near field =
    fits_or _
    (fits-words "3 +" refl fits-then fits_or _ (fits-words " or 3+" refl) (fits-none {n = 0}))
    (fits-words "5 +" refl fits-then fits_or _ (fits-words " or 5+" refl) (fits-none {n = 0}))

fits-numbered : (a b : ℕ) → Fits 10 (numbered a b)
unfolding numbered
fits-numbered a b = fits-fixed 3 a fits-then fits-words " to " refl fits-then fits-fixed 3 b

fits-from : (d : ℕ) → Fits 18 (from_day d)
unfolding from_day
fits-from d = fits-words "from " refl fits-then fits-dated d fits-then fits-words " on" refl

fits-most : (n : ℕ) {m : ℕ} {unit : List ℕ} → Fits m unit → Fits (8 + (20 + m)) (at_most n unit)
unfolding at_most
fits-most n w = fits-words "at most " refl fits-then fits-decimal n fits-then w

fits_count : (cause a b : ℕ) → Fits 57 (allowed_count cause a b)
unfolding allowed_count
fits_count cause a b =
    fits_or _ (fits-most a (fits-words " parts" refl))
    (fits_or _ (fits-most b (fits-words " bytes in a part" refl))
    (fits_or _ (fits-most b (fits-words " account files" refl))
    (fits_or _ (fits-most b (fits-words " items in an account file" refl))
    (fits_or _ (fits-most b (fits-words " items in a file" refl)) (fits_said 57 plainly cause refl)))))

fits-day : (today cause a b : ℕ) → Fits 57 (allowed_day today cause a b)
unfolding allowed_day
fits-day today cause a b =
    fits_or _ (fits-from today)
    (fits_or _ (fits-most b (fits-words " days after " refl fits-then fits-dated today))
    (fits_or _ (fits_or _ (fits-from today) (fits-words "after " refl fits-then fits-dated today))
    (fits_or _ (fits-words "at most one month after " refl fits-then fits-dated today) (fits_count cause a b))))

fits-number : (today cause a b : ℕ) → Fits 57 (allowed_number today cause a b)
unfolding allowed_number
fits-number today cause a b =
    fits_or _ (fits-ranged a b)
    (fits_or _ (fits-ranged a b)
    (fits_or _ (fits-ranged a b)
    (fits_or _ (fits-fixed 4 a)
    (fits_or _ (fits-numbered a b)
    (fits_or _ (fits-words "first three digits " refl fits-then fits-numbered a b)
    (fits_or _ (fits-words "the sum of the items, " refl fits-then fits-decimal a)
    (fits_or _ (fits-words "a sum of at most " refl fits-then fits-decimal b) (fits-day today cause a b))))))))

pub fits-allowed : (sh : Sheet) (today cause field a b : ℕ) → Fits 176 (allowed sh today cause field a b)
unfolding allowed
fits-allowed sh today cause field a b =
    fits_or _ (fits-spelled sh field)
    (fits_or _ (fits-words "a space and " refl fits-then fits_said 22 fields field refl fits-then fits-words " behind it" refl)
    (fits_or _ (fits-closing sh.near field) (fits-number today cause a b)))
