-- No line of an accepted file is refused where its rows are put. Assumes nothing.
use mathlib.Core.Path.{◌≡◌, refl}
use mathlib.Core.Bool.{Bool, true, false}
use mathlib.Core.List.{List, [], ◌∷◌}
use Prim.Native.Nat.{ℕ}
use Rattle.sheet.specs.declared.Sheet.{Sheet}
use Rattle.paper.specs.Batch.{Batch, Header}
use Rattle.paper.specs.Lines.{Line, lines_of}
use Rattle.paper.specs.Entries.{Entry, head, file, group, item, close_group, close_file, Counted}
use Rattle.paper.specs.Spells.{Context, read_line, Due, dues, SaysEntry, Each}
use Rattle.paper.specs.Rows.{accepted, single_after, single_behind}
use Rattle.paper.specs.Judge.{Accepted, judge}
use Rattle.exact.proofs.Main.{exact}
use Rattle.rowlaws.proofs.Within.{head-again, file-line-again, group-again, item-again, group-end-again, file-end-again}
use Rattle.rowlaws.proofs.Filled.{Meets, Runs, runs-batch}
use Rattle.numeral.specs.placed.Said.{is_said}
use Rattle.fill.specs.file.Judged.{AllSaid}

-- one line: it says the same entry in the context of lines that are accepted, and so do the lines behind it (P)
module _ (sh : Sheet) (today : ℕ) (s : List ℕ) (b : Bool) (P : Bool → Type 0) where
  abbrev said : Counted
  said = read_line sh today (accepted b) s

  abbrev Goes : Type 0
  Goes = (is_said said ≡ true) × P (single_behind b said)

  one : (c : Context) (e : Entry) (w : ℕ) → Meets b c e → SaysEntry sh today s c e w → P (single_after b e) → Goes
  unfolding is_said single_after single_behind
  one c (head h) w _ (p, q) r = rw (head-again sh today c b s w p h q) (refl, r)
  one c (file k n) w _ (p, q) r = rw (file-line-again sh today c b s w p k n q) (refl, r)
  one c (group a exact d) w _ (total, v, (p, q), _, _) r = rw (group-again sh today c b s v p a total d q).1 (refl, r)
  one c (item x) w i (p, q) r = rw (item-again sh today c b s w p x i q) (refl, r)
  one c close_group w _ (p, q) r = rw (group-end-again sh today c b s w p q) (refl, r)
  one c close_file w _ (p, q) r = rw (file-end-again sh today c b s w p q) (refl, r)

-- all lines
all_said : (sh : Sheet) (today : ℕ) (b : Bool) (ls : List Line) (ds : List Due) (w : ℕ) → Runs b ds → Each sh today ls ds w → AllSaid sh today b ls
all_said sh today b [] [] w r e = tt
all_said sh today b [] (d ∷ ds) w r e = absurd e
all_said sh today b (t ∷ ls) [] w r e = absurd e
all_said sh today b (t ∷ ls) (d ∷ ds) w (r, rs) (v, u, q, e, _) =
    one sh today t.bytes b (λ i. AllSaid sh today i ls) d.context d.entry v r q (all_said sh today (single_after b d.entry) ls ds u rs e)

pub file-said : (sh : Sheet) (today : ℕ) (f : List ℕ) (h : Header) (b : Batch) (w : ℕ) → judge sh today f ≡ Accepted h b w → AllSaid sh today false (lines_of 0 f)
file-said sh today f h b w e = all_said sh today false (lines_of 0 f) (dues h b) w (runs-batch h b) ((exact sh today f h b w).0 e).lines
