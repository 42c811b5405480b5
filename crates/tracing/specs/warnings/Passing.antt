-- A pass over an accepted file, which judges nothing: what it keeps of the judge's state, and what it does with a line. Assumes nothing.
use Rattle.std.specs.Prelude.{ℕ, ◌+◌, ◌≡◌, true, List, length}
use Rattle.paper.specs.Accounts.{is_nobody}
use Rattle.paper.specs.Lines.{lines_from}
use Rattle.paper.specs.Judge.{State, at_first, at_file, at_group, at_item, stop, context_of, step, run}
use Rattle.scan.specs.declared.line.Cut.{Cut}
use Rattle.numeral.specs.counted.Counted.{Counted}
use Rattle.why.specs.Finding.{accepts}
use Rattle.why.specs.Warned.{line_warned}
use Rattle.listing.specs.declared.Telling.{Telling}
use Rattle.listing.specs.Listed.{listed}
use Rattle.listing.specs.group.Warned.{line_in}
use Rattle.tracing.specs.declared.warnings.Step.{Step}

-- x has the kind of the account file that is open, and whether the group that is open is single
abbrev pub Keeps : Step → State → Type 0
Keeps x at_first = Unit {0}
Keeps x (at_file y) = Unit {0}
Keeps x (at_group y) = x.kind ≡ y.opening.kind
Keeps x (at_item y) = (x.kind ≡ y.opening.kind) × (x.single ≡ is_nobody y.head.payer)
Keeps x (stop a) = ⊥

-- A pass over f has come with x to line k, which starts at `at` and where the judge's state is st; from there on the file is accepted.
pub record Stands (t : Telling) (f : List ℕ) (at k : ℕ) (x : Step) (st : State) : Type 0 where
  pub keeps : Keeps x st
  pub accepted : accepts (run t.sheet t.today (length f) k (lines_from f at) st) ≡ true

-- .. with some state of the judge
pub record Passes (t : Telling) (f : List ℕ) (at k : ℕ) (x : Step) : Type 0 where
  pub state : State
  pub stands : Stands t f at k x state

-- what that line warns of is put where x says, and the pass comes with y to the next one
pub record Passed (t : Telling) (f : List ℕ) (at : ℕ) (cut : Cut) (k : ℕ) (x : Step) (st : State) (o o' : List ℕ) (y : Step) : Type 0 where
  pub put : Counted o x.next
      (listed t f (line_warned t.sheet t.today k (line_in f at cut.stop) (lines_from f cut.next) (context_of st)))
      o' y.next
  pub stands : Stands t f cut.next (k + 1) y (step t.sheet t.today k (line_in f at cut.stop) st)

-- .. whatever the judge's state is
abbrev pub Puts : Telling → List ℕ → ℕ → Cut → ℕ → Step → List ℕ → List ℕ → Step → Type 0
Puts t f at cut k x o o' y = (st : State) → Stands t f at k x st → Passed t f at cut k x st o o' y
