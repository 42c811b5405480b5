-- Which file spells which statements. A file is accepted exactly when it spells statements. Document 02, W-204. Assumes nothing.
use Rattle.std.specs.Prelude.{ℕ, ◌≤◌, ◌≡◌, List, [], ◌∷◌, length}
use Rattle.gpc.specs.Records.{Record, saids, records_in}
use Rattle.gpc.specs.Statements.{Statement, things, Agrees}

-- the sums of every statement agree
abbrev pub AllAgree : List Statement → Type 0
AllAgree [] = Unit {0}
AllAgree (s ∷ ss) = Agrees s × AllAgree ss

-- records say statements: one after the other they are read as these, there is one statement or more, and all sums agree
pub record Say (rs : List Record) (ss : List Statement) : Type 0 where
  pub read : rs ≡ saids (things ss)
  pub some : 1 ≤ length ss
  pub sums : AllAgree ss

-- a file spells statements
abbrev pub Spells : List ℕ → List Statement → Type 0
Spells f ss = Say (records_in f) ss
