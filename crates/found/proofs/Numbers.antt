-- What a state's causes come to in numbers: what is found from the judge's state is what is found from its counts. Assumes nothing.
use Rattle.std.proofs.Common.{◌≡◌, ℕ, List, [], refl, arith}
use Rattle.sheet.specs.declared.Sheet.{Sheet}
use Rattle.paper.specs.Batch.{sum}
use Rattle.paper.specs.Lines.{Line}
use Rattle.paper.specs.Entries.{Kind}
use Rattle.paper.specs.Judge.{State, at_first, at_file, at_group, at_item, stop, rev_on}
use Rattle.paper.proofs.Lists.{empty-null, sum-rev}
use Rattle.tally.specs.Abs.{abs}
use Rattle.tally.proofs.Same.{contexts, dues, fulls}
use Rattle.why.specs.Finding as why
use Rattle.found.specs.Numbers as numbers

-- 3, 15 and 10, by cases of the state

due-causes : (st : State) → why.due_cause st ≡ numbers.due_cause (abs st)
unfolding abs why.due_cause numbers.due_cause
due-causes at_first = refl
due-causes (at_file x) = rw (← (empty-null x.files))
due-causes (at_group x) = rw (← (empty-null x.groups))
due-causes (at_item x) = rw (← (empty-null x.items))
due-causes (stop a) = refl

full-causes : (st : State) → why.full_cause st ≡ numbers.full_cause (abs st)
unfolding abs why.full_cause numbers.full_cause
full-causes at_first = refl
full-causes (at_file x) = refl
full-causes (at_group x) = refl
full-causes (at_item x) = refl
full-causes (stop a) = refl

full-limits : (sh : Sheet) (st : State) → why.full_limit sh st ≡ numbers.full_limit sh (abs st)
unfolding abs why.full_limit numbers.full_limit
full-limits sh at_first = refl
full-limits sh (at_file x) = refl
full-limits sh (at_group x) = refl
full-limits sh (at_item x) = refl
full-limits sh (stop a) = refl

totals : (f : List ℕ) (st : State) → why.at_total f st ≡ numbers.at_total f (abs st)
unfolding abs why.at_total why.total_found numbers.at_total numbers.total_found sum
totals f at_first = refl
totals f (at_file x) = refl
totals f (at_group x) = refl
totals f (at_item x) = let s : sum (rev_on x.items []) ≡ sum x.items = omega (arith, sum-rev x.items []) in rw s
totals f (stop a) = refl

-- at the file's end
pub earlies : (n k : ℕ) (st : State) → why.early n k st ≡ numbers.early n k (abs st)
unfolding why.early numbers.early
earlies n k st = rw (due-causes st)

-- in a line
pub blames : (sh : Sheet) (today : ℕ) (f : List ℕ) (k : ℕ) (t : Line) (kind : Kind) (st : State)
    → why.blame sh today f k t kind st ≡ numbers.blame sh today f k t kind (abs st)
unfolding why.blame numbers.blame why.not_due numbers.not_due why.too_many numbers.too_many
blames sh today f k t kind st =
    rw (due-causes st, full-causes st, full-limits sh st, totals f st, contexts st, dues kind st, fulls sh kind st)
