-- The judging of rows, one by one: rules for a search. Assumes nothing.
use mathlib.Core.Path.{◌≡◌, refl, ap, ◌∙◌}
use mathlib.Core.List.{List, [], ◌∷◌}
use Prim.Native.Nat.{ℕ, suc, ◌+◌, ◌-◌, ◌*◌, ◌≤◌, ◌<◌}
use native.Mathlib.Omega.{arith}
use lib.ListN.{length, take, drop}
use Rattle.std.specs.Prelude.{Option, Some, Result, Ok, Err}
use Rattle.gpc.specs.Records.{Thing, Record}
use Rattle.gpc.specs.StatementRows.{thing_in, things_in, tested, testeds}
use Rattle.gpc.specs.Statements.{row_spots, top, judge}
use Rattle.gpc.specs.Answers.{judge_rows}
use Rattle.record.specs.declared.Entry.{Entry}
use Rattle.record.specs.Told.{told, in_row as kept_in_row}
use Rattle.statement.specs.declared.run.Open.{Open}
use Rattle.statement.specs.declared.run.Fault.{Fault}
use Rattle.statement.specs.Forms.{in_rows, read_all, Passed}
use Rattle.statement.specs.run.Follows.{AllSized, Follows, Stood, stray, wrong_as, outcome, Leads, Tells, Finishes}
use Rattle.statement.proofs.run.Leading.{stood-sized}
use Rattle.statement.proofs.Pieces.{rows_all, rows_short}
use Rattle.statement.proofs.Passing.{passed_first, passed-stood, passed-refused, passed_on, passed-left, passed-end}

testeds-length : (ts : List Thing) → length (testeds ts) ≡ length ts
unfolding testeds
testeds-length [] = refl
testeds-length (t ∷ ts) = ap suc (testeds-length ts)

module _ (s : List ℕ) where
  judged : judge row_spots (read_all in_rows s) ≡ judge_rows s
  unfolding judge_rows
  judged = ap (judge row_spots) (rows_all s)

  counted : length (read_all in_rows s) ≡ length (things_in s)
  counted = ap (λ (l : List Record). length l) (rows_all s) ∙ testeds-length (things_in s)

  pub rows-first : (x : Option Open) → Follows x top → Passed in_rows row_spots s x 0 0
  rows-first x h = passed_first in_rows (omega arith) row_spots s x h

  module _ (x : Option Open) (at k : ℕ) (d : Passed in_rows row_spots s x at k) where
    pub rows_inside : at ≤ length s
    rows_inside = d.inside

    pub rows-stood : Stood x k
    rows-stood = passed-stood in_rows (omega arith) row_spots s x at k d

    pub rows-sized : AllSized x
    rows-sized = stood-sized x k rows-stood

    pub rows_few : 136 ≤ length s - at → length s < 18446744073709551616 → 130 * k + 130 ≤ 18446744073709551615
    rows_few h l = omega (arith, d.place, d.inside)

    module _ (h : 136 ≤ length s - at) (e : Entry) (q : told (kept_in_row (take (at + 136 - at) (drop at s))) e ≡ tested (thing_in (take (at + 136 - at) (drop at s))))
        (m : Result Open Fault) (v : Leads row_spots x e k m) where
      size : at + 136 - at ≡ 136
      size = omega arith

      pub rows-refused : (r : Fault) → m ≡ Err r → outcome (judge_rows s) ≡ wrong_as r
      rows-refused r i =
          rw (← judged) (passed-refused in_rows (omega arith) row_spots s x at k d (omega (arith, h, d.inside)) _ e (rw size at q) m v r i)

      pub rows-on : (y : Open) → m ≡ Ok y → Passed in_rows row_spots s (Some y) (at + 136) (k + 1)
      rows-on y r = passed_on in_rows (omega arith) row_spots s x at k d (omega (arith, h, d.inside)) _ e (rw size at q) m v y r

    pub rows_left : (r : Fault) → at < length s → length s - at < 136 → r ≡ stray k → outcome (judge_rows s) ≡ wrong_as r
    rows_left r l h i = rw (i, ← judged) (passed-left in_rows (omega arith) row_spots s x at k d l (omega (arith, h, d.inside)) rows_short)

    pub rows_end : (r : Result ℕ Fault) → length s ≤ at → Finishes row_spots x k r → Tells (length (things_in s)) (judge_rows s) r
    rows_end r h g = rw (← judged, ← counted) (passed-end in_rows (omega arith) row_spots s x at k d r h g)

pub ruleset judging = (rows-first, rows_inside, rows-stood, rows-sized, rows_few, rows-refused, rows-on, rows_left, rows_end)
