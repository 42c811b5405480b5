-- What a line says, fits: each kind of line, and any line. Assumes nothing.
use mathlib.Core.Path.{◌≡◌, refl}
use mathlib.Core.List.{List}
use Prim.Native.Nat.{ℕ}
use Rattle.sheet.specs.declared.Sheet.{Sheet}
use Rattle.sheet.proofs.Laws.{Sane}
use Rattle.paper.specs.Terms.{day_here}
use Rattle.paper.specs.Entries.{Entry, Places, Listed, Counted, got, said, no, counted, Kind, kind_of}
use Rattle.paper.specs.Spells.{Context, read_line}
use Rattle.paper.proofs.Passing.{notices-length}
use Rattle.paper.proofs.LineSays.{Asked, LineSays, no-header, a_header, a-file, a-group, an-item, a_group_end, a_file_end, refused, says}
use Rattle.roundtrip.specs.linesound.Fits.{FitsIn, Fits, Warned}
use Rattle.roundtrip.proofs.linesound.FirstLine.{header-fits, no-header-fits}
use Rattle.roundtrip.proofs.linesound.FileLine.{file-fits}
use Rattle.roundtrip.proofs.linesound.GroupLine.{group-fits}
use Rattle.roundtrip.proofs.linesound.ItemLine.{item-fits}

abbrev Told : Sheet → ℕ → Asked → Counted → Type 0
Told sh today a (got t) = FitsIn sh today a.number a.here a.due a.single t.entry × Warned sh today a.here t.entry t.warnings
Told sh today a (no n off) = Unit {0}

module _ (sh : Sheet) (sane : Sane sh) where
  sound : {today : ℕ} {a : Asked} {w : List ℕ} {kind : Kind} {r : Listed} → LineSays sh today a w kind r → Told sh today a (counted r)
  unfolding counted
  sound (no-header not) = (no-header-fits sh not, refl)
  sound (a_header has d n long c f t) = (header-fits sh has d n long c f t, refl)
  sound (a-file k n _ _) = (file-fits sh sane k n, refl)
  sound (a-group spot p t d _ _) = (group-fits sh p t d, notices-length _ spot _)
  sound (an-item _ p f a v b _ s t) = (item-fits sh sane _ p f a v b s t, tt)
  sound a_group_end = (tt, refl)
  sound a_file_end = (tt, refl)
  sound (refused _ _) = tt

  pub line-sound : (today : ℕ) (c : Context) (s : List ℕ) (e : Entry) (w : ℕ) (p : Places) → read_line sh today c s ≡ said e w p
      → Fits sh today c e × Warned sh today (day_here sh c.kind) e w
  unfolding read_line
  line-sound today c s e w p g = rw g at (sound (says sh today c (kind_of s) s))
