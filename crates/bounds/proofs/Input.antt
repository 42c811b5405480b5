-- What stands behind the first 8,193 bytes of an input changes nothing: the rewriting program need not read it. Assumes nothing.
use Rattle.std.proofs.Common.{Option, Some, None}
use mathlib.Core.Path.{◌≡◌, refl, sym, ap, ◌∙◌}
use mathlib.Core.List.{List, [], ◌∷◌}
use Prim.Native.Nat.{ℕ, zero, suc, ◌≤◌, ◌<◌}
use native.Mathlib.Omega.{arith}
use lib.Dec.{eqb}
use lib.ListN.{length, take}
use lib.Seq.{take_all, length-take-le}
use borrow.Author.Tests.{lt-ltb, le-ltb}
use Rattle.base.specs.Pick.{pick}
use Rattle.base.proofs.Cases.{by-lt, by-test, pick_true}
use Rattle.sheet.specs.declared.Sheet.{Sheet}
use Rattle.sheet.specs.Sheets.{sheet_by}
use Rattle.paper.specs.Read.{Field, value, fault, given}
use Rattle.paper.specs.Numerals.{digits}
use Rattle.paper.specs.Days.{short_day}
use Rattle.paper.specs.Rewriting.{first_line, on_day, day_field, on_sheet, on_letter, rewriting}

-- the first line of an input's first n bytes
first-take : (n : ℕ) (s : List ℕ) → first_line (take n s) ≡ take n (first_line s)
unfolding first_line pick
first-take zero [] = refl
first-take zero (b ∷ s) = refl
first-take (suc n) [] = refl
first-take (suc n) (b ∷ s) =
    by-test (eqb b 10)
    (λ lf. rw lf)
    (λ no. rw no (by-test (eqb b 13) (λ cr. rw cr) (λ on. rw (on, first-take n s))))

-- ---- where the line goes on behind what was taken, it is no day, before and after

long-day : (s : List ℕ) → 6 < length s → short_day s ≡ fault 4
unfolding short_day digits given pick
long-day s l = let m : 6 ≤ length s = omega arith in rw (le-ltb (length s) 6 m, lt-ltb 6 (length s) l)

day-take : (n : ℕ) (s : List ℕ) → 6 < n → short_day (take n s) ≡ short_day s
day-take n s six =
    by-lt n (length s)
    (λ l. let m : length (take n s) ≡ n = length-take-le n s (omega arith) in long-day (take n s) (omega arith) ∙ sym (long-day s (omega arith)))
    (λ l. ap short_day (take_all n s l))

field-take : (n : ℕ) (s : List ℕ) → 6 < n → day_field (take (suc n) s) ≡ day_field s
unfolding day_field
field-take n [] six = refl
field-take n (x ∷ s) six = rw (day-take n s six)

sheet-take : (n : ℕ) (k : Option Sheet) (rest input : List ℕ) → 6 < n → on_sheet k (take (suc n) rest) input ≡ on_sheet k rest input
unfolding on_sheet
sheet-take n None rest input six = refl
sheet-take n (Some sh) rest input six = ap (on_day sh input) (field-take n rest six)

letter-take : (n : ℕ) (l input : List ℕ) → 6 < n → on_letter (take (suc (suc n)) l) input ≡ on_letter l input
unfolding on_letter
letter-take n [] input six = refl
letter-take n (letter ∷ rest) input six = sheet-take n (sheet_by letter) rest input six

-- ---- of two inputs that are both too long nothing is read but that line

module _ (a b : List ℕ) (long : 8192 < length a) (same : 8192 < length b) where
  day-alike : (sh : Sheet) (d : Field ℕ) → on_day sh a d ≡ on_day sh b d
  unfolding on_day
  day-alike sh (value today) = pick_true _ _ (lt-ltb 8192 (length a) long) ∙ sym (pick_true _ _ (lt-ltb 8192 (length b) same))
  day-alike sh (fault n) = refl

  sheet-alike : (k : Option Sheet) (rest : List ℕ) → on_sheet k rest a ≡ on_sheet k rest b
  unfolding on_sheet
  sheet-alike None rest = refl
  sheet-alike (Some sh) rest = day-alike sh (day_field rest)

  letter-alike : (l : List ℕ) → on_letter l a ≡ on_letter l b
  unfolding on_letter
  letter-alike [] = refl
  letter-alike (letter ∷ rest) = sheet-alike (sheet_by letter) rest

-- The program writes for the first 8,193 bytes of an input what it writes for the whole.
pub first-bytes : (s : List ℕ) → rewriting (take 8193 s) ≡ rewriting s
unfolding rewriting
first-bytes s =
    ap (λ (l : List ℕ). on_letter l (take 8193 s)) (first-take 8193 s)
    ∙ letter-take 8191 (first_line s) (take 8193 s) (omega arith)
    ∙ by-lt 8193 (length s)
    (λ l. let m : length (take 8193 s) ≡ 8193 = length-take-le 8193 s (omega arith) in letter-alike (take 8193 s) s (omega arith) (omega arith) (first_line s))
    (λ l. ap (on_letter (first_line s)) (take_all 8193 s l))
