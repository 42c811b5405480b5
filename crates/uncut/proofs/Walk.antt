-- What the narrower of two sheets accepts, of what is let through, the wider one accepts alike. Assumes nothing.
use mathlib.Core.Path.{◌≡◌, refl}
use mathlib.Core.List.{List, [], ◌∷◌, map}
use Prim.Native.Nat.{ℕ}
use native.Mathlib.Omega.{arith}
use Rattle.sheet.specs.declared.Sheet.{Sheet}
use Rattle.paper.specs.Accounts.{is_nobody}
use Rattle.paper.specs.Batch.{Item, Group, AccountFile, Batch, Header}
use Rattle.paper.specs.Lines.{Line, lines_of}
use Rattle.paper.specs.Entries.{Entry, head, file, group, item, close_group, close_file}
use Rattle.paper.specs.FileLine.{series}
use Rattle.paper.specs.Spells.{for_item, Context, Reads, Due, due, item_dues, group_dues, file_dues, dues, SaysEntry, Each}
use Rattle.paper.specs.Judge.{Accepted, judge}
use Rattle.exact.proofs.Main.{exact}
use Rattle.uncut.specs.Wider.{Wider, Throughout}
use Rattle.uncut.proofs.Kept.{turned}
use Rattle.uncut.proofs.Lines.{turned_in, line_kept}

-- ---- the lines that are due, where headers are turned

module _ (turn : Header → Header) where
  abbrev turned_due : Due → Due
  turned_due d = due (turned_in turn d.context) (turned turn d.entry)

  items-turned : (c : Context) (xs : List Item) (r : List Due) → map turned_due (item_dues c xs r) ≡ item_dues (turned_in turn c) xs (map turned_due r)
  unfolding item_dues
  items-turned c [] r = refl
  items-turned c (x ∷ xs) r = rw (items-turned c xs r)

  groups-turned : (kind : ℕ) (gs : List Group) (r : List Due) → map turned_due (group_dues kind gs r) ≡ group_dues kind gs (map turned_due r)
  unfolding group_dues
  groups-turned kind [] r = refl
  groups-turned kind (g ∷ gs) r =
      rw (items-turned (for_item kind g.date (is_nobody g.payer)) g.items (group_dues kind gs r), groups-turned kind gs r)

  files-turned : (h : Header) (seen : List ℕ) (fs : List AccountFile) → map turned_due (file_dues h seen fs) ≡ file_dues (turn h) seen fs
  unfolding file_dues
  files-turned h seen [] = refl
  files-turned h seen (f ∷ fs) =
      rw (groups-turned f.kind f.groups (file_dues h (series f.number ∷ seen) fs), files-turned h (series f.number ∷ seen) fs)

  dues-turned : (h : Header) (b : Batch) → map turned_due (dues h b) ≡ dues (turn h) b
  unfolding dues
  dues-turned h b = rw (files-turned h [] b)

module _ (Only : Entry → ℕ → Type 0) (turn : Header → Header) (a b : Sheet) (wider : Wider Only turn a b) (today : ℕ) where
  -- ---- one line

  module _ (s : List ℕ) (c : Context) where
    reads-too : (e : Entry) (w : ℕ) → Only e w → Reads a today s c e w → Reads b today s (turned_in turn c) (turned turn e) w
    reads-too e w o (p, q) = (p, line_kept Only turn a b wider today c s e w p o q)

    says-too : (e : Entry) (w : ℕ) → Only e w → SaysEntry a today s c e w → SaysEntry b today s (turned_in turn c) (turned turn e) w
    says-too (head h) w o r = reads-too _ w o r
    says-too (file k n) w o r = reads-too _ w o r
    says-too (group payer sum date) w o (total, v, r, same, q) =
        let (only, exactly) = wider.totals payer total sum date v (rw q at o) in
        (total, v, reads-too (group payer total date) v only r, exactly same, q)
    says-too (item x) w o r = reads-too _ w o r
    says-too close_group w o r = reads-too _ w o r
    says-too close_file w o r = reads-too _ w o r

  -- ---- all lines

  each-too : (ts : List Line) (ds : List Due) (w : ℕ) → Throughout Only ds w → Each a today ts ds w → Each b today ts (map (turned_due turn) ds) w
  each-too [] [] w o e = e
  each-too [] (d ∷ ds) w o e = absurd e
  each-too (t ∷ ts) [] w o e = absurd e
  each-too (t ∷ ts) (d ∷ ds) w o (v, u, r, e, q) =
      let (only, rest) = o v u q in
      (v, u, says-too t.bytes d.context d.entry v only r, each-too ts ds u rest e, q)

  -- ---- a file

  pub taken-too : (f : List ℕ) (h : Header) (batch : Batch) (w : ℕ) → Throughout Only (dues h batch) w
      → judge a today f ≡ Accepted h batch w → judge b today f ≡ Accepted (turn h) batch w
  taken-too f h batch w o e =
      let s = (exact a today f h batch w).0 e in
      let r = s.rules in
      let i = wider.items in
      (exact b today f (turn h) batch w).1
      (record { lines = rw (dues-turned turn h batch) at (each-too (lines_of 0 f) (dues h batch) w o s.lines); rules = (r.0, r.1, omega arith, r.3) })
