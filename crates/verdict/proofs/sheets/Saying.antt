-- A sheet's line by its parts, counted one after another, and how long the lines are. Assumes nothing.
use Rattle.std.proofs.Common.{Some}
use mathlib.Core.Path.{◌≡◌, refl}
use mathlib.Core.List.{List, [], ◌∷◌, ◌++◌}
use Prim.Native.Nat.{ℕ, ◌*◌, ◌≤◌}
use native.Mathlib.Omega.{arith}
use lib.Dec.{eqb}
use lib.ListN.{length, length-append}
use borrow.Author.Tests.{eq-eqb, ne_eqb}
use Rattle.base.proofs.Cases.{either, pick_true, pick-false}
use Rattle.sheet.specs.declared.Sheet.{Sheet}
use Rattle.sheet.specs.Sheets.{sheets, sheet_of}
use Rattle.paper.specs.Bytes.{bytes}
use Rattle.paper.specs.Numerals.{decimal}
use Rattle.paper.specs.Reading.{ReadAnswer, read_with}
use Rattle.numeral.specs.counted.Counted.{Counted}
use Rattle.numeral.proofs.counted.Laws.{◌counted-then◌}
use Rattle.spelling.proofs.linelen.Lengths.{decimal-twenty}
use Rattle.verdict.specs.declared.Verdict.{Verdict}
use Rattle.verdict.specs.Told.{verdict_of}
use Rattle.verdict.specs.Sheets.{accepted_words, refused_words, verdict_words, sheet_line, lines_on, sheet_lines}
use Rattle.verdict.proofs.Wording.{said}

-- ---- whose verdict it is

pub asked-same : (n asked today : ℕ) (f : List ℕ) (v : Verdict) → n ≡ asked → v ≡ verdict_of (read_with (sheet_of asked) today f (length f))
    → v ≡ verdict_of (read_with (sheet_of n) today f (length f))
asked-same n asked today f v e g = rw e g

-- ---- in words

accepted-is : (w : ℕ) → accepted_words w ≡ said (bytes ": accepted, warnings ") w ++ (46 ∷ 10 ∷ [])
unfolding accepted_words
accepted-is w = refl

refused-is : (n l p : ℕ) → refused_words n l p ≡ said (bytes ": refused (") n ++ (said (bytes ") at line ") l ++ (said (bytes ", byte ") p ++ (46 ∷ 10 ∷ [])))
unfolding refused_words
refused-is n l p = refl

module _ {o o1 : List ℕ} {at e : ℕ} where
  pub then-accepted : (w : ℕ) {o2 : List ℕ} {r : ℕ} → Counted o at (said (bytes ": accepted, warnings ") w) o1 e → Counted o1 e (46 ∷ 10 ∷ []) o2 r
      → Counted o at (accepted_words w) o2 r
  then-accepted w v u = rw (accepted-is w) (v counted-then u)

  pub then-refused : (n l p : ℕ) {o2 o3 o4 : List ℕ} {f g r : ℕ} → Counted o at (said (bytes ": refused (") n) o1 e
      → Counted o1 e (said (bytes ") at line ") l) o2 f → Counted o2 f (said (bytes ", byte ") p) o3 g → Counted o3 g (46 ∷ 10 ∷ []) o4 r
      → Counted o at (refused_words n l p) o4 r
  then-refused n l p w v u t = rw (refused-is n l p) (w counted-then v counted-then u counted-then t)

  module _ (v : Verdict) where
    pub words-accepted : v.number ≡ 0 → Counted o at (accepted_words v.warnings) o1 e → Counted o at (verdict_words v) o1 e
    unfolding verdict_words
    words-accepted z w = rw (pick_true _ _ (eq-eqb v.number 0 z)) w

    pub words-refused : (v.number ≡ 0 → ⊥) → Counted o at (refused_words v.number v.line v.byte) o1 e → Counted o at (verdict_words v) o1 e
    unfolding verdict_words
    words-refused z w = rw (pick-false _ _ (ne_eqb v.number 0 z)) w

    -- put_sheet
    pub then-words : (letter : ℕ) {o2 o3 : List ℕ} {f r : ℕ} → Counted o at (bytes "Sheet ") o1 e → Counted o1 e (letter ∷ []) o2 f
        → Counted o2 f (verdict_words v) o3 r → Counted o at (bytes "Sheet " ++ (letter ∷ verdict_words v)) o3 r
    then-words letter w u t = w counted-then u counted-then t

pub ruleset words = (words-accepted, words-refused)

-- ---- how long

accepted-most : (w : ℕ) → length (accepted_words w) ≤ 43
unfolding accepted_words
accepted-most w = omega (arith, decimal-twenty w, length-append (decimal w) (46 ∷ 10 ∷ []))

refused-most : (n l p : ℕ) → length (refused_words n l p) ≤ 90
unfolding refused_words
refused-most n l p =
    omega (
      arith,
      decimal-twenty n,
      decimal-twenty l,
      decimal-twenty p,
      length-append (decimal n) (bytes ") at line " ++ (decimal l ++ (bytes ", byte " ++ (decimal p ++ (46 ∷ 10 ∷ []))))),
      length-append (decimal l) (bytes ", byte " ++ (decimal p ++ (46 ∷ 10 ∷ []))),
      length-append (decimal p) (46 ∷ 10 ∷ []),
    )

words-most : (v : Verdict) → length (verdict_words v) ≤ 90
unfolding verdict_words
words-most v =
    either (λ (s : List ℕ). length s ≤ 90) (eqb v.number 0)
    (λ _. omega (arith, accepted-most v.warnings))
    (λ _. refused-most v.number v.line v.byte)

-- a sheet's line, whatever it says,
pub sheet-line-short : (letter : ℕ) (a : ReadAnswer) → length (sheet_line letter a) ≤ 97
unfolding sheet_line
sheet-line-short letter a = omega (arith, words-most (verdict_of a))

module _ (today : ℕ) (f : List ℕ) where
  lines-on-short : (shs : List Sheet) → length (lines_on today f shs) ≤ 97 * length shs
  unfolding lines_on
  lines-on-short [] = omega arith
  lines-on-short (sh ∷ shs) =
      let a = read_with (Some sh) today f (length f) in
      omega (arith, sheet-line-short sh.letter a, lines-on-short shs, length-append (sheet_line sh.letter a) (lines_on today f shs))

  -- and so the lines of all
  pub sheet-lines-short : length (sheet_lines today f) ≤ 97 * length sheets
  unfolding sheet_lines
  sheet-lines-short = lines-on-short sheets
