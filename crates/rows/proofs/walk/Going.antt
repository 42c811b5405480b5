-- Walking on, row by row: the verdict over all rows stays, and the place moves on. Assumes nothing.
use mathlib.Core.Path.{◌≡◌, ap, ◌∙◌}
use mathlib.Core.Bool.{Bool, true, false}
use mathlib.Core.List.{List}
use Prim.Native.Nat.{ℕ, ◌+◌, ◌*◌, ◌≤◌, ◌<◌}
use native.Mathlib.Numerals.{add-one}
use native.Mathlib.Omega.{arith}
use lib.ListN.{length, drop}
use Rattle.base.specs.Pick.{pick}
use Rattle.paper.specs.Batch.{most14}
use Rattle.paper.specs.Proper as paper
use Rattle.paper.specs.Proper.{fine, wrong, check, may_stop, rows_proper, batch_proper, at_top}
use Rattle.paper.specs.Words.{words}
use Rattle.paper.specs.Rows.{rows_in, thing_in, things_in}
use Rattle.rows.specs.declared.read.Row.{Row}
use Rattle.rows.specs.declared.walk.Before.{Before}
use Rattle.std.proofs.Common.{◌/◌, Option, Result, Ok, Err}
use Rattle.rows.specs.declared.field.Field.{Field}
use Rattle.rows.specs.field.Numbers.{number_of}
use Rattle.rows.specs.list.From.{things_from}
use Rattle.rows.specs.read.Told.{told}
use Rattle.rows.specs.walk.Walks.{before_of, walked, Walks}
use Rattle.rows.proofs.list.From.{things-step, things-end, things-rest}
use Rattle.rows.proofs.walk.Passed.{walk-sum, walks-on}

-- the walk stands before row i + 1, with the rows before it behind it
pub record Going (texts rows : List ℕ) (i : ℕ) (b : Before) : Type 0 where
  pub inside : i * 192 ≤ length rows
  pub low : b.sum ≤ most14
  pub same : rows_proper (i + 1) (before_of b) (things_from texts rows (i * 192)) ≡ batch_proper (things_in texts (rows_in rows))

pub going_start : (texts rows : List ℕ) (b : Before) → before_of b ≡ at_top → Going texts rows 0 b
unfolding batch_proper
going_start texts rows b e =
    record {
      inside = omega arith;
      low = omega (arith, ap (λ (p : paper.Before). p.sum) e);
      same = rw e;
    }

module _ {texts rows : List ℕ} {i : ℕ} {b : Before} (going : Going texts rows i b) where
  -- the row that was read leads to r
  module _ (test : i < length rows / 192) (row : Option Row) (read : (t : List ℕ) → told t row ≡ thing_in t (words 24 (drop (i * 192) rows)))
      (r : Result Before Field) (walks : Walks b (told texts row) r) where
    room : i * 192 + 192 ≤ length rows
    room = omega arith

    verdict : walked (i + 1) r (things_from texts rows (i * 192 + 192)) ≡ batch_proper (things_in texts (rows_in rows))
    verdict = walks.same (i + 1) _ ∙ (rw (read texts, ← things-step rows (i * 192) texts room) going.same)

    pub going_on : (next : Before) → r ≡ Ok next → Going texts rows (i + 1) next
    going_on next e =
        let place : (i + 1) * 192 ≡ i * 192 + 192 = omega arith in
        record {
          inside = omega (arith, room);
          low = walk-sum b next _ (walks-on b _ r walks next e);
          same = rw (place, add-one (i + 1)) (rw e at verdict);
        }

    pub going-wrong : (field : Field) → r ≡ Err field → wrong (i + 1) (number_of field) ≡ batch_proper (things_in texts (rows_in rows))
    going-wrong field e = rw e at verdict

  -- bytes that are no whole row
  pub going-rest : i ≡ length rows / 192 → (length rows ≡ i * 192 → ⊥) → wrong (i + 1) 0 ≡ batch_proper (things_in texts (rows_in rows))
  unfolding rows_proper
  going-rest e q = rw (things-rest rows (i * 192) texts (omega arith) (omega arith)) at going.same

  -- behind the last row
  module _ (p : length rows ≡ i * 192) (stop : Bool) (may : stop ≡ may_stop (before_of b).stage) where
    at-end : check (i + 1) 0 stop fine ≡ batch_proper (things_in texts (rows_in rows))
    unfolding rows_proper
    at-end = rw (things-end rows (i * 192) texts (omega arith), ← may) at going.same

    pub going-stop : stop ≡ true → fine ≡ batch_proper (things_in texts (rows_in rows))
    unfolding check pick
    going-stop e = rw e at at-end

    pub going-missing : stop ≡ false → wrong (i + 1) 0 ≡ batch_proper (things_in texts (rows_in rows))
    unfolding check pick
    going-missing e = rw e at at-end

pub ruleset goings = (going_start, going_on, going-wrong, going-rest, going-stop, going-missing)
