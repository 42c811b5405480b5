-- Rows one after the other: the lines put so far, and those that are still to come. Assumes nothing.
use mathlib.Core.Path.{◌≡◌, refl, sym, ap, ◌∙◌}
use mathlib.Core.Bool.{Bool, false}
use mathlib.Core.List.{List, [], ◌∷◌, ◌++◌, append_assoc}
use Prim.Native.Nat.{ℕ, ◌+◌, ◌-◌, ◌≤◌, ◌<◌}
use native.Mathlib.Omega.{arith}
use lib.ListN.{length, drop, length-append}
use Rattle.base.specs.Put.{Wrote}
use Rattle.base.proofs.Put.{◌then◌}
use Rattle.base.proofs.Cases.{by-lt}
use Rattle.out.proofs.put.Room.{wrote_none, wrote-length}
use Rattle.sheet.specs.declared.Sheet.{Sheet}
use Rattle.paper.specs.Proper.{need_file, fine, batch_proper}
use Rattle.paper.specs.Words.{words}
use Rattle.paper.specs.Rows.{rows_in, thing_in, things_in}
use Rattle.roundtrip.specs.flat.Flat.{file_ends, flat}
use Rattle.rows.specs.list.From.{things_from}
use Rattle.rows.proofs.list.From.{things-step, things-end, things-rest}
use Rattle.spelling.specs.declared.file.Step.{Step}
use Rattle.spelling.specs.file.Passing.{Passing}
use Rattle.spelling.specs.file.Lines.{stage_when, row_lines, due_after, Filled}
use Rattle.spelling.proofs.file.Passing.{pass-top, pass_on, pass-known}
use Rattle.spelling.proofs.file.Lines.{flat-row, flat-last}

module _ (sh : Sheet) (t rows : List ℕ) where
  abbrev whole : List ℕ
  whole = flat sh need_file (things_in t (rows_in rows))

  -- the lines of the rows before `row` stand in o1, from `at` on; the others go behind them
  pub record Going (o : List ℕ) (at row next : ℕ) (due : Bool) (o1 : List ℕ) : Type 0 where
    pub done : List ℕ
    pub wrote : Wrote o at done o1 next
    pub rest : whole ≡ done ++ flat sh (stage_when due) (things_from t rows row)
    pub pass : Passing (things_from t rows row)

  pub going-first : (o : List ℕ) (at : ℕ) → batch_proper (things_in t (rows_in rows)) ≡ fine → at + length whole ≤ length o → Going o at 0 at false o
  going-first o at e h = record { done = []; wrote = wrote_none o at (omega arith); rest = refl; pass = pass-top (things_in t (rows_in rows)) e }

  module _ (o o1 : List ℕ) (at row next : ℕ) (due : Bool) (v : Going o at row next due o1) where
    pub going-room : at + length whole ≤ length o → next + length (flat sh (stage_when due) (things_from t rows row)) ≤ length o1
    going-room h =
        omega (arith, ap length v.rest, length-append v.done (flat sh (stage_when due) (things_from t rows row)), wrote-length v.wrote, v.wrote.next)

    pub going-pass : Passing (things_from t rows row)
    going-pass = v.pass

    pub going_more : (o2 : List ℕ) (s : Step) → 192 ≤ length rows - row
        → Filled sh due (thing_in t (words 24 (drop row rows))) (things_from t rows (row + 192)) o1 next o2 s
        → Going o at (row + 192) s.next s.due o2
    going_more o2 s h w =
        let this = thing_in t (words 24 (drop row rows)) in
        let behind = things_from t rows (row + 192) in
        let e : things_from t rows row ≡ this ∷ behind = things-step rows row t (omega arith) in
        let f : whole ≡ v.done ++ (row_lines sh due this behind ++ flat sh (stage_when (due_after due this)) behind) =
        rw (e, flat-row sh due this behind) at v.rest in
        record {
          done = v.done ++ row_lines sh due this behind;
          wrote = v.wrote then w.wrote;
          rest = rw w.after (f ∙ sym (append_assoc v.done _ _));
          pass = pass_on this behind (rw e at v.pass);
        }

    -- no row is left, and no byte is left over
    module _ (h : length rows - row < 192) where
      none_left : things_from t rows row ≡ []
      none_left =
          by-lt row (length rows)
          (λ l. absurd (pass-known [] (rw (things-rest rows row t l (omega arith)) at v.pass)))
          (λ l. things-end rows row t l)

      last : whole ≡ v.done ++ file_ends (stage_when due)
      last = rw (none_left, flat-last sh due) at v.rest

      pub going-last : at + length whole ≤ length o → next + length (file_ends (stage_when due)) ≤ length o1
      going-last l = omega (arith, ap length last, length-append v.done (file_ends (stage_when due)), wrote-length v.wrote, v.wrote.next)

      pub going-length : (o2 : List ℕ) (q : ℕ) → Wrote o1 next (file_ends (stage_when due)) o2 q → length o2 ≡ length o
      going-length o2 q w = wrote-length w ∙ wrote-length v.wrote

      pub going_end : (o2 : List ℕ) (q : ℕ) → Wrote o1 next (file_ends (stage_when due)) o2 q → Wrote o at whole o2 q
      going_end o2 q w = rw last (v.wrote then w)

pub ruleset rows-turn = (going-room, going-pass, going_more, going-last, going-length, going_end)
