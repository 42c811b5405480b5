-- Lines one after the other: the rows put so far, and those that are still to come. Assumes nothing.
use mathlib.Core.Path.{◌≡◌, refl, sym, ap, ◌∙◌}
use mathlib.Core.Bool.{Bool, true, false}
use mathlib.Core.List.{List, [], ◌++◌, append_assoc, append-nil}
use Prim.Native.Nat.{ℕ, ◌+◌, ◌-◌, ◌≤◌, ◌<◌}
use native.Mathlib.Nat.{zero-add}
use native.Mathlib.Omega.{arith}
use lib.ListN.{length, take, drop, length-append, length-take, length-drop}
use Rattle.base.specs.Put.{put, Wrote}
use Rattle.base.proofs.Put.{◌then◌}
use Rattle.sheet.specs.declared.Sheet.{Sheet}
use Rattle.paper.specs.Entries.{Counted}
use Rattle.paper.specs.Lines.{lines_of, lines_from}
use Rattle.paper.specs.Spells.{read_line}
use Rattle.paper.specs.Words.{rows_bytes}
use Rattle.paper.specs.Rows.{accepted, line_row, single_behind, lines_rows}
use Rattle.base.proofs.Lists.{drop-none}
use Rattle.out.proofs.put.Room.{wrote_none, wrote-length}
use Rattle.out.proofs.word.Rows.{rows_append}
use Rattle.scan.specs.declared.line.Cut.{Cut}
use Rattle.scan.specs.line.Cutting.{Cuts}
use Rattle.scan.proofs.line.Lines.{at-end}
use Rattle.fill.specs.declared.file.Step.{Step}
use Rattle.numeral.specs.placed.Said.{is_said}
use Rattle.fill.specs.file.Stepped.{Stepped}
use Rattle.fill.specs.file.Judged.{AllSaid}

module _ (f : List ℕ) (sh : Sheet) (today : ℕ) where
  abbrev rows_from : Bool → ℕ → List (List ℕ)
  rows_from single at = lines_rows sh today single (lines_from f at)

  abbrev whole : List (List ℕ)
  whole = lines_rows sh today false (lines_of 0 f)

  -- what the line that starts at `at` says
  abbrev said : Bool → ℕ → Cut → Counted
  said single at r = read_line sh today (accepted single) (take (r.stop - at) (drop at f))

  -- the rows of the lines before `at` stand in o1, and the others follow them
  pub record Going (o : List ℕ) (at next : ℕ) (single : Bool) (o1 : List ℕ) : Type 0 where
    pub done : List (List ℕ)
    pub wrote : Wrote o 0 (rows_bytes done) o1 next
    pub rest : whole ≡ done ++ rows_from single at

  pub said-first : AllSaid sh today false (lines_of 0 f) → AllSaid sh today false (lines_from f 0)
  unfolding lines_from
  said-first h = rw drop-none h

  pub going-first : (o : List ℕ) → Going o 0 0 false o
  unfolding rows_bytes lines_from
  going-first o = record { done = []; wrote = wrote_none o 0 (omega arith); rest = refl }

  module _ (o o1 : List ℕ) (at next : ℕ) (single : Bool) (v : Going o at next single o1) where
    module _ (r : Cut) (c : Cuts f at r) where
      -- the line's row, and those behind it
      cut-rows : rows_from single at ≡ line_row at (said single at r) ++ rows_from (single_behind single (said single at r)) r.next
      unfolding lines_rows
      cut-rows = rw c.lines

      pub going-room : length (rows_bytes whole) ≤ length o → next + length (rows_bytes (line_row at (said single at r))) ≤ length o1
      going-room h =
          let now = line_row at (said single at r) in
          let later = rows_from (single_behind single (said single at r)) r.next in
          let e : rows_bytes whole ≡ rows_bytes v.done ++ (rows_bytes now ++ rows_bytes later) =
          ap rows_bytes v.rest
          ∙ (rows_append v.done (rows_from single at)
          ∙ (ap (λ (l : List (List ℕ)). rows_bytes v.done ++ rows_bytes l) cut-rows
          ∙ ap (λ (l : List ℕ). rows_bytes v.done ++ l) (rows_append now later))) in
          omega (arith, ap length e, length-append (rows_bytes v.done) (rows_bytes now ++ rows_bytes later), length-append (rows_bytes now) (rows_bytes later), wrote-length v.wrote, v.wrote.next)

      pub going_more : (o2 : List ℕ) (t : Step) → Stepped o1 next single at (said single at r) o2 t → Going o r.next t.next t.single o2
      going_more o2 t w =
          record {
            done = v.done ++ line_row at (said single at r);
            wrote = rw (rows_append v.done (line_row at (said single at r))) (v.wrote then w.wrote);
            rest = rw w.after (v.rest ∙ (ap (λ (l : List (List ℕ)). v.done ++ l) cut-rows ∙ sym (append_assoc v.done _ _)));
          }

      -- the line is not refused, and neither are those behind it
      pub line-said : AllSaid sh today single (lines_from f at) → is_said (said single at r) ≡ true
      line-said h = (rw c.lines at h).0

      pub going-said : AllSaid sh today single (lines_from f at) → (o2 : List ℕ) (t : Step) → Stepped o1 next single at (said single at r) o2 t
          → AllSaid sh today t.single (lines_from f r.next)
      going-said h o2 t w = rw w.after (rw c.lines at h).1

    pub going-length : length o1 ≡ length o
    going-length = wrote-length v.wrote

    pub going_end : length f ≤ at → o1 ≡ rows_bytes whole ++ drop (length (rows_bytes whole)) o
    unfolding put lines_rows
    going_end h =
        let e : whole ≡ v.done = v.rest ∙ ((rw (at-end f at h)) ∙ append-nil v.done) in
        rw e (v.wrote.left ∙ ap (λ (n : ℕ). rows_bytes v.done ++ drop n o) (zero-add (length (rows_bytes v.done))))

-- a line's bytes end within the file
pub cut_inside : (f : List ℕ) (at : ℕ) (r : Cut) → Cuts f at r → length f < 18446744073709551616 → at + length (take (r.stop - at) (drop at f)) < 18446744073709551616
cut_inside f at r c h = omega (arith, length-take (r.stop - at) (drop at f), length-drop at f, c.ahead, c.from, c.to, c.inside)

pub ruleset lines-turn = (going-room, line-said, going-said, going_more, going-length, going_end, cut_inside)
