-- A line that says an account file, a group or an item, and so makes a row, has 8 bytes or more. Assumes nothing.
use mathlib.Core.Path.{◌≡◌, sym, ◌∙◌}
use mathlib.Core.Bool.{Bool, false}
use mathlib.Core.List.{List}
use Prim.Native.Nat.{ℕ, ◌*◌, ◌≤◌}
use native.Mathlib.Omega.{arith}
use lib.Dec.{eqb}
use lib.ListN.{length, length-drop}
use Rattle.base.specs.Pick.{pick}
use Rattle.base.proofs.Cases.{by-test, pick_true, pick-false}
use Rattle.sheet.specs.declared.Sheet.{Sheet}
use Rattle.paper.specs.Read.{value}
use Rattle.paper.specs.Numerals.{digits}
use Rattle.paper.specs.Days.{read_due, read_day, short_day, long_day}
use Rattle.paper.specs.BankField.{Bank, read_bank, read_due_bank}
use Rattle.paper.specs.Entries.{Listed, counted, Kind}
use Rattle.paper.specs.FileLine.{read_kind, read_number}
use Rattle.paper.specs.Rows.{entry_row, line_row}
use Rattle.paper.proofs.LineSays.{Asked, LineSays, no-header, a_header, a-file, a-group, an-item, a_group_end, a_file_end, refused}
use Rattle.numeral.proofs.Sound.{digits-least}
use Rattle.numeral.proofs.given.Given.{given-value}

-- ---- how long fields are

kind-four : (sh : Sheet) (s : List ℕ) (v : ℕ) → read_kind sh s ≡ value v → 4 ≤ length s
unfolding read_kind
kind-four sh s v e = let g = given-value _ (digits 4 4 s) v e in digits-least 4 4 s g.0 g.1

number-six : (test : ℕ → ℕ) (s : List ℕ) (v : ℕ) → read_number test s ≡ value v → 6 ≤ length s
unfolding read_number
number-six test s v e = let g = given-value _ (digits 6 6 s) v e in digits-least 6 6 s g.0 g.1

day-six : (long : Bool) (s : List ℕ) (v : ℕ) → read_day long s ≡ value v → 6 ≤ length s
unfolding read_day long_day short_day
day-six long s v e =
    by-test (pick long (eqb (length s) 8) false)
    (λ t. let g = given-value _ (digits 8 8 s) v (sym (pick_true _ _ t) ∙ e) in omega (arith, digits-least 8 8 s g.0 g.1))
    (λ t. let g = given-value _ (digits 6 6 s) v (sym (pick-false _ _ t) ∙ e) in digits-least 6 6 s g.0 g.1)

due-six : (long here early : Bool) (ahead today : ℕ) (s : List ℕ) (v : ℕ) → read_due long here early ahead today s ≡ value v → 6 ≤ length s
unfolding read_due
due-six long here early ahead today s v e = let g = given-value _ (read_day long s) v e in day-six long s g.0 g.1

bank-eight : (ranked : Bool) (due : ℕ → Bool) (s : List ℕ) (v : Bank) → read_due_bank ranked due s ≡ value v → 8 ≤ length s
unfolding read_due_bank read_bank
bank-eight ranked due s v e =
    let b = given-value _ (read_bank ranked s) v e in
    let g = given-value _ (digits 8 10 s) b.0 b.1 in
    digits-least 8 10 s g.0 g.1

-- ---- and so lines

module _ (sh : Sheet) (start : ℕ) where
  pub row-least : {today : ℕ} {a : Asked} {s : List ℕ} {kind : Kind} {r : Listed} → LineSays sh today a s kind r
      → 8 * length (line_row start (counted r)) ≤ length s
  unfolding line_row entry_row counted
  row-least (no-header _) = omega arith
  row-least (a_header _ _ _ _ _ _ _) = omega arith
  row-least {a = a} {s = s} (a-file {kind = k} {number = m} f g _ h) =
      omega (arith, h, kind-four sh f.0 k f.1, number-six a.number g.0 m g.1, length-drop 2 s)
  row-least {today} {a = a} {s = s} (a-group {date = date} _ _ _ d h _) =
      omega (arith, h, due-six sh.longdate a.here sh.early sh.ahead today d.0 date d.1, length-drop 2 s)
  row-least {a = a} (an-item {bank = bank} _ _ _ _ _ b h _ _) = omega (arith, h, bank-eight sh.priority a.due b.0 bank b.1)
  row-least a_group_end = omega arith
  row-least a_file_end = omega arith
  row-least (refused _ _) = omega arith
