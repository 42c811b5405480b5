-- Where names are read, no part of what is read holds ` NP:`. Assumes nothing.
use mathlib.Core.Path.{◌≡◌}
use mathlib.Core.Bool.{true}
use mathlib.Core.List.{List, [], ◌∷◌}
use Prim.Native.Nat.{ℕ}
use Rattle.sheet.specs.declared.Sheet.{Sheet}
use Rattle.sheet.proofs.Laws.{Sane}
use Rattle.paper.specs.Accounts.{is_nobody}
use Rattle.paper.specs.Batch.{Item, Group, AccountFile, Batch, Header}
use Rattle.paper.specs.FileLine.{series}
use Rattle.paper.specs.Lines.{lines_of}
use Rattle.paper.specs.Spells.{Context, for_item, Due, item_dues, group_dues, file_dues, dues}
use Rattle.paper.specs.Judge.{Accepted, judge}
use Rattle.text.proofs.wording.Parts.{Every, none, more}
use Rattle.text.proofs.wording.Fit.{Fit, parts-fit}
use Rattle.exact.proofs.Main.{exact}
use Rattle.roundtrip.specs.linesound.Fits.{ItemFits}
use Rattle.roundtrip.proofs.whole.Lines as lines
use Rattle.uncut.specs.Unmarked.{Unmarked}
use Rattle.moving.specs.Marks.{ItemsUnmarked, GroupsUnmarked, BatchUnmarked}

module _ (sh : Sheet) (named : sh.text.names ≡ true) (today : ℕ) where
  parts-unmarked : (ps : List (List ℕ)) → Every (Fit sh.text) ps → Unmarked ps
  parts-unmarked [] none = tt
  parts-unmarked (p ∷ ps) (more f fs) = (f.marks named, parts-unmarked ps fs)

  item-unmarked : (due : _) (single : _) (x : Item) → ItemFits sh due single x → Unmarked x.parts
  item-unmarked due single x f =
      parts-unmarked x.parts (parts-fit sh.text 0 x.parts f.texts.parts-proper f.texts.parts-carried)

  -- each entry was told by a line
  abbrev Told : List Due → Type 0
  Told ds = lines.Every (lines.Told sh today) ds

  items-unmarked : (c : Context) (xs : List Item) (r : List Due) → Told (item_dues c xs r) → ItemsUnmarked xs × Told r
  unfolding item_dues
  items-unmarked c [] r (t, ts) = (tt, ts)
  items-unmarked c (x ∷ xs) r (t, ts) = let (u, rest) = items-unmarked c xs r ts in ((item-unmarked _ _ x t, u), rest)

  groups-unmarked : (kind : ℕ) (gs : List Group) (r : List Due) → Told (group_dues kind gs r) → GroupsUnmarked gs × Told r
  unfolding group_dues
  groups-unmarked kind [] r (t, ts) = (tt, ts)
  groups-unmarked kind (g ∷ gs) r (t, ts) =
      let (here, behind) = items-unmarked (for_item kind g.date (is_nobody g.payer)) g.items (group_dues kind gs r) ts in
      let (u, rest) = groups-unmarked kind gs r behind in
      ((here, u), rest)

  files-unmarked : (h : Header) (seen : List ℕ) (fs : List AccountFile) → Told (file_dues h seen fs) → BatchUnmarked fs
  unfolding file_dues
  files-unmarked h seen [] t = tt
  files-unmarked h seen (f ∷ fs) (t, ts) =
      let (here, behind) = groups-unmarked f.kind f.groups (file_dues h (series f.number ∷ seen) fs) ts in
      (here, files-unmarked h (series f.number ∷ seen) fs behind)

  -- What a sheet with names accepts has no ` NP:` in any part.
  pub named-unmarked : Sane sh → (f : List ℕ) (h : Header) (b : Batch) (w : ℕ) → judge sh today f ≡ Accepted h b w → BatchUnmarked b
  unfolding dues
  named-unmarked sane f h b w e =
      files-unmarked h [] b (lines.each-told sh today sane (lines_of 0 f) (dues h b) w ((exact sh today f h b w).0 e).lines).0.1
