-- What writing does not refuse, and what its file is read back as. Document 01, "Numbers returned", 20 and 21. Assumes nothing.
use Rattle.std.specs.Prelude.{ℕ, ◌+◌, ◌≡◌, List, [], ◌∷◌, length}
use Rattle.base.specs.Pick.{pick}
use Rattle.sheet.specs.declared.Sheet.{Sheet}
use Rattle.paper.specs.Days.{due_warnings}
use Rattle.paper.specs.Terms.{day_here}
use Rattle.paper.specs.Batch.{Group, Batch, Header, no_header, Thing, a_file, a_group, an_item, misnumbered, strange, things}
use Rattle.paper.specs.Lines.{Line}
use Rattle.paper.specs.Proper.{fine, header_proper, batch_proper}
use Rattle.paper.specs.Carried.{header_carried, batch_carried}
use Rattle.paper.specs.Spells.{Due, Reads}

-- Every item has four parts. Rows always say such items; a list of things need not.
abbrev pub FourParts : List Thing → Type 0
FourParts [] = Unit {0}
FourParts (a_file kind number ∷ ts) = FourParts ts
FourParts (a_group date payer ∷ ts) = FourParts ts
FourParts (an_item x ∷ ts) = (length x.parts ≡ 4) × FourParts ts
FourParts (misnumbered x ∷ ts) = FourParts ts
FourParts (strange ∷ ts) = FourParts ts

-- Rows and a header pass every test of 20 and of 21; where a sheet has no header (C), none is looked at.
pub record Passes (sh : Sheet) (today : ℕ) (h : Header) (ts : List Thing) : Type 0 where
  pub header-proper : pick sh.header (header_proper h) fine ≡ fine
  pub rows-proper : batch_proper ts ≡ fine
  pub header-carried : pick sh.header (header_carried sh.interval h) fine ≡ fine
  pub rows-carried : batch_carried sh today h ts ≡ fine
  pub four_parts : FourParts ts

-- the sheet carries the batch with the header on that day
abbrev pub Carries : Sheet → ℕ → Header → Batch → Type 0
Carries sh today h b = Passes sh today h (things b)

-- what reading gives of a header that was written: on a sheet without one (C), zeros and a name of spaces
unfoldable pub head_read : Sheet → Header → Header
head_read sh h = pick sh.header h no_header

-- How many groups are due on a past day, where the sheet warns of it (C, P): the warnings of a canonical file. A collection's day is not warned
-- of: there a past one is refused.
unfoldable pub past_groups : Sheet → ℕ → ℕ → List Group → ℕ
past_groups sh today kind [] = 0
past_groups sh today kind (g ∷ gs) = due_warnings (day_here sh kind) sh.warnpast today g.date + past_groups sh today kind gs

unfoldable pub past_warnings : Sheet → ℕ → Batch → ℕ
past_warnings sh today [] = 0
past_warnings sh today (f ∷ fs) = past_groups sh today f.kind f.groups + past_warnings sh today fs

-- each line says exactly the entry that is due, a group's line the exact sum as its total
abbrev pub Exactly : Sheet → ℕ → List Line → List Due → Type 0
Exactly sh today [] [] = Unit {0}
Exactly sh today [] (d ∷ ds) = ⊥
Exactly sh today (t ∷ ts) [] = ⊥
Exactly sh today (t ∷ ts) (d ∷ ds) = ((v : ℕ) × Reads sh today t.bytes d.context d.entry v) × Exactly sh today ts ds
