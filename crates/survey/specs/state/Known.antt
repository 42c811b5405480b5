-- What the code knows of the place where rows stand. Document 01, "Numbers returned"; document 02, W-202. Assumes nothing.
use Rattle.std.specs.Prelude.{ℕ, ◌≡◌, List}
use Rattle.sheet.specs.declared.Sheet.{Sheet}
use Rattle.paper.specs.Terms.{bank_due}
use Rattle.paper.specs.Carried.{Place}
use Rattle.calendar.specs.declared.term.Banks.{Banks}
use Rattle.calendar.specs.term.Allows.{allows}
use Rattle.fileline.specs.seen.Bits.{Holds}

-- these are the payee banks that items may have in an account file of that kind and a group of that day
abbrev pub Due : Sheet → ℕ → Banks → ℕ → ℕ → Type 0
Due sh today banks kind date = (bank : ℕ) → allows banks sh.bank bank ≡ bank_due sh today kind date bank

-- rows stand at p: so many items before them, in an account file of this kind, behind those whose numbers are in the set; items may have these banks
pub record Known (sh : Sheet) (today all kind : ℕ) (banks : Banks) (seen : List ℕ) (p : Place) : Type 0 where
  pub items : p.items ≡ all
  pub within : p.kind ≡ kind
  pub due : Due sh today banks p.kind p.date
  pub earlier : Holds seen p.seen
