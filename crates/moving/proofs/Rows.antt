-- The rows that two sheets leave of one file are the same, byte for byte, where one is wider than the other. Assumes nothing.
use mathlib.Core.Path.{◌≡◌, refl, sym}
use mathlib.Core.Bool.{Bool, false}
use mathlib.Core.List.{List, [], ◌∷◌}
use Prim.Native.Nat.{ℕ}
use Rattle.sheet.specs.declared.Sheet.{Sheet}
use Rattle.paper.specs.Batch.{Batch, Header}
use Rattle.paper.specs.Lines.{Line, lines_of}
use Rattle.paper.specs.Entries.{Entry, head, file, group, item, close_group, close_file, Places, said}
use Rattle.paper.specs.Spells.{Context, read_line, Reads, Due, dues, SaysEntry, Each}
use Rattle.paper.specs.Judge.{Accepted, judge}
use Rattle.paper.specs.Rows.{entry_row, line_row, single_after, single_behind, accepted, lines_rows}
use Rattle.exact.proofs.Main.{exact}
use Rattle.rowlaws.proofs.Within.{head-again, file-line-again, group-again, item-again, group-end-again, file-end-again}
use Rattle.rowlaws.proofs.Filled.{Meets, Runs, runs-batch}
use Rattle.uncut.specs.Wider.{Wider, Throughout}
use Rattle.uncut.proofs.Kept.{turned}
use Rattle.uncut.proofs.Lines.{turned_in, line_kept}

-- a line that is accepted says the same with no context of its own, a group's perhaps with other warnings
again : (sh : Sheet) (today : ℕ) (c : Context) (b : Bool) (s : List ℕ) (v : ℕ) (q : Places) (e : Entry) → Meets b c e
    → read_line sh today c s ≡ said e v q → (u : ℕ) × (read_line sh today (accepted b) s ≡ said e u q)
again sh today c b s v q (head h) m r = (v, head-again sh today c b s v q h r)
again sh today c b s v q (file k n) m r = (v, file-line-again sh today c b s v q k n r)
again sh today c b s v q (group p t d) m r = group-again sh today c b s v q p t d r
again sh today c b s v q (item x) m r = (v, item-again sh today c b s v q x m r)
again sh today c b s v q close_group m r = (v, group-end-again sh today c b s v q r)
again sh today c b s v q close_file m r = (v, file-end-again sh today c b s v q r)

module _ (turn : Header → Header) where
  meets-turned : (b : Bool) (c : Context) (e : Entry) → Meets b c e → Meets b (turned_in turn c) (turned turn e)
  meets-turned b c (head h) m = m
  meets-turned b c (file k n) m = m
  meets-turned b c (group p t d) m = m
  meets-turned b c (item x) m = m
  meets-turned b c close_group m = m
  meets-turned b c close_file m = m

  -- a header has no row
  row-turned : (start : ℕ) (q : Places) (e : Entry) → entry_row start q (turned turn e) ≡ entry_row start q e
  unfolding entry_row
  row-turned start q (head h) = refl
  row-turned start q (file k n) = refl
  row-turned start q (group p t d) = refl
  row-turned start q (item x) = refl
  row-turned start q close_group = refl
  row-turned start q close_file = refl

  single-turned : (b : Bool) (e : Entry) → single_after b (turned turn e) ≡ single_after b e
  unfolding single_after
  single-turned b (head h) = refl
  single-turned b (file k n) = refl
  single-turned b (group p t d) = refl
  single-turned b (item x) = refl
  single-turned b close_group = refl
  single-turned b close_file = refl

module _ (Only : Entry → ℕ → Type 0) (turn : Header → Header) (a b : Sheet) (wider : Wider Only turn a b) (today : ℕ) where
  -- both sheets leave one row of a line, and read the items behind it alike
  record Alike (t : Line) (single : Bool) (e : Entry) : Type 0 where
    row : line_row t.start (read_line a today (accepted single) t.bytes) ≡ line_row t.start (read_line b today (accepted single) t.bytes)
    here : single_behind single (read_line a today (accepted single) t.bytes) ≡ single_after single e
    there : single_behind single (read_line b today (accepted single) t.bytes) ≡ single_after single e

  module _ (t : Line) (c : Context) (single : Bool) where
    reads-alike : (e : Entry) (w : ℕ) → Only e w → Meets single c e → Reads a today t.bytes c e w → Alike t single e
    unfolding line_row single_behind
    reads-alike e w o m (q, r) =
        let (_, i) = again a today c single t.bytes w q e m r in
        let (_, j) =
        again b today (turned_in turn c) single t.bytes w q (turned turn e) (meets-turned turn single c e m)
        (line_kept Only turn a b wider today c t.bytes e w q o r) in
        record {
          row = rw (i, j) (sym (row-turned turn t.start q e));
          here = rw i;
          there = rw j (single-turned turn single e);
        }

    says-alike : (e : Entry) (w : ℕ) → Only e w → Meets single c e → SaysEntry a today t.bytes c e w → Alike t single e
    unfolding single_after
    says-alike (head h) w o m r = reads-alike _ w o m r
    says-alike (file k n) w o m r = reads-alike _ w o m r
    says-alike (group payer exact date) w o m (total, v, r, same, q) =
        let (only, exactly) = wider.totals payer total exact date v (rw q at o) in
        let l = reads-alike (group payer total date) v only m r in
        record { row = l.row; here = l.here; there = l.there }
    says-alike (item x) w o m r = reads-alike _ w o m r
    says-alike close_group w o m r = reads-alike _ w o m r
    says-alike close_file w o m r = reads-alike _ w o m r

  each-alike : (single : Bool) (ts : List Line) (ds : List Due) (w : ℕ) → Throughout Only ds w → Runs single ds → Each a today ts ds w
      → lines_rows a today single ts ≡ lines_rows b today single ts
  unfolding lines_rows
  each-alike single [] ds w o runs e = refl
  each-alike single (t ∷ ts) [] w o runs e = absurd e
  each-alike single (t ∷ ts) (d ∷ ds) w o (m, runs) (v, u, r, e, q) =
      let (only, rest) = o v u q in
      let l = says-alike t d.context single d.entry v only m r in
      rw (l.row, l.here, l.there, each-alike (single_after single d.entry) ts ds u rest runs e)

  pub rows_alike : (f : List ℕ) (h : Header) (batch : Batch) (w : ℕ) → Throughout Only (dues h batch) w → judge a today f ≡ Accepted h batch w
      → lines_rows a today false (lines_of 0 f) ≡ lines_rows b today false (lines_of 0 f)
  rows_alike f h batch w o e = each-alike false (lines_of 0 f) (dues h batch) w o (runs-batch h batch) ((exact a today f h batch w).0 e).lines
