-- The text can be shown as it stands: every byte is LF or 32 to 126. Assumes nothing.
use Rattle.std.proofs.Common.{Some}
use mathlib.Core.Path.{◌≡◌, refl}
use mathlib.Core.Bool.{Bool, true, ◌&&◌}
use mathlib.Core.List.{List, [], ◌∷◌}
use Prim.Native.Nat.{ℕ}
use lib.Dec.{eqb, leb}
use lib.ListN.{length}
use borrow.Author.Tests.{leb-true}
use Rattle.base.specs.Pick.{pick}
use Rattle.base.specs.Seek.{all}
use Rattle.base.proofs.Cases.{both}
use Rattle.base.proofs.Seek.{all_append}
use Rattle.sheet.specs.declared.Sheet.{Sheet}
use Rattle.sheet.specs.Sheets.{sheets, sheet_of}
use Rattle.sheet.proofs.Laws.{every, every-sheet}
use Rattle.paper.specs.Judge.{Answer, Refused, Accepted, judge}
use Rattle.paper.specs.Reading.{ReadAnswer, read_with, row_count}
use Rattle.why.specs.declared.Finding.{Finding}
use Rattle.sentences.specs.Printable.{is_printable}
use Rattle.sentences.proofs.Fits.{Fits, ◌fits-then◌, fits_or, range-printable, fits_byte, fits-words, fits-decimal}
use Rattle.sentences.proofs.Printable.{sentence-printable}
use Rattle.listing.specs.Listed.{spelled, listed}
use Rattle.verdict.specs.declared.Verdict.{Verdict}
use Rattle.verdict.specs.Told.{verdict_of}
use Rattle.verdict.specs.Sheets.{accepted_words, refused_words, verdict_words, sheet_line, lines_on, sheet_lines}
use Rattle.findings.specs.Findings.{findings, in_words}
use Rattle.explain.specs.Explanation.{refused_heading, counts_words, accepted_heading, heading, text_on}

-- a sheet's letter is one; tested of every known sheet
abbrev lettered : Sheet → Bool
lettered sh = leb 32 sh.letter && leb sh.letter 126

letter-printable : (sh : Sheet) → lettered sh ≡ true → is_printable sh.letter ≡ true
letter-printable sh e =
    let (lo, hi) = both (leb 32 sh.letter) (leb sh.letter 126) e in
    range-printable sh.letter (leb-true 32 sh.letter lo) (leb-true sh.letter 126 hi)

-- a full stop and LF
fits-end : Fits 2 (46 ∷ 10 ∷ [])
unfolding is_printable pick
fits-end = fits-words "." refl fits-then fits_byte {x = 10} refl

-- ---- the heading

module _ (letter : ℕ) (plain : is_printable letter ≡ true) where
  fits_refused : Fits 20 (refused_heading letter)
  unfolding refused_heading
  fits_refused = fits-words "Refused on sheet " refl fits-then fits_byte plain fits-then fits-end

  fits-accepted : (rows w : ℕ) → Fits 79 (accepted_heading letter rows w)
  unfolding accepted_heading counts_words
  fits-accepted rows w =
      fits-words "Accepted on sheet " refl
      fits-then fits_byte plain
      fits-then fits-words ", rows " refl
      fits-then fits-decimal rows
      fits-then fits-words ", warnings " refl
      fits-then fits-decimal w
      fits-then fits-end

  heading-printable : (a : Answer) → all is_printable (heading letter a) ≡ true
  unfolding heading
  heading-printable (Refused n l p) = fits_refused.printable
  heading-printable (Accepted h b w) = (fits-accepted (row_count b) w).printable

-- ---- the sheets' lines

fits-verdict : (v : Verdict) → Fits 90 (verdict_words v)
unfolding verdict_words accepted_words refused_words
fits-verdict v =
    fits_or (eqb v.number 0) (fits-words ": accepted, warnings " refl fits-then fits-decimal v.warnings fits-then fits-end)
    (fits-words ": refused (" refl
    fits-then fits-decimal v.number
    fits-then fits-words ") at line " refl
    fits-then fits-decimal v.line
    fits-then fits-words ", byte " refl
    fits-then fits-decimal v.byte
    fits-then fits-end)

fits_line : (letter : ℕ) → is_printable letter ≡ true → (a : ReadAnswer) → Fits 97 (sheet_line letter a)
unfolding sheet_line
fits_line letter plain a = fits-words "Sheet " refl fits-then fits_byte plain fits-then fits-verdict (verdict_of a)

module _ (today : ℕ) (f : List ℕ) where
  lines-printable : (shs : List Sheet) → every lettered shs ≡ true → all is_printable (lines_on today f shs) ≡ true
  unfolding lines_on all
  lines-printable [] e = refl
  lines-printable (sh ∷ shs) e =
      let (here, there) = both (lettered sh) (every lettered shs) e in
      let a = read_with (Some sh) today f (length f) in
      all_append is_printable (sheet_line sh.letter a) (lines_on today f shs)
      (fits_line sh.letter (letter-printable sh here) a).printable
      (lines-printable shs there)

  sheets-printable : all is_printable (sheet_lines today f) ≡ true
  unfolding sheet_lines
  sheets-printable = lines-printable sheets refl

-- ---- all of it

listed-printable : (sh : Sheet) (today : ℕ) (f : List ℕ) (xs : List Finding) → all is_printable (listed (in_words sh today) f xs) ≡ true
unfolding listed spelled pick all
listed-printable sh today f [] = refl
listed-printable sh today f (x ∷ xs) =
    all_append is_printable (spelled (in_words sh today) f x) (listed (in_words sh today) f xs)
    (sentence-printable sh today f x)
    (listed-printable sh today f xs)

-- on a known sheet, whatever bytes the file has and whatever the day is
pub text-printable : (sheet : ℕ) (sh : Sheet) → sheet_of sheet ≡ Some sh → (today : ℕ) (f : List ℕ) → all is_printable (text_on sh today f) ≡ true
unfolding text_on
text-printable sheet sh named today f =
    let plain = letter-printable sh (every-sheet sheet sh named lettered refl) in
    all_append is_printable (heading sh.letter (judge sh today f)) _
    (heading-printable sh.letter plain (judge sh today f))
    (all_append is_printable (listed (in_words sh today) f (findings sh today f)) (sheet_lines today f)
    (listed-printable sh today f (findings sh today f))
    (sheets-printable today f))
