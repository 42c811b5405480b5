-- What the code keeps of the records it has passed, and what it says of those that follow. Document 02, W-204. Assumes nothing.
use Rattle.std.specs.Prelude.{ℕ, suc, ◌≤◌, ◌≡◌, Option, Some, None, Result, Ok, Err, List, [], ◌∷◌, ◌++◌, length}
use Rattle.refusal.specs.declared.Refusal.TheVariants.{BadRecord}
use Rattle.refusal.specs.Numbers.{number_of}
use Rattle.paper.specs.Batch.{most14}
use Rattle.paper.specs.Entries.{got, no}
use Rattle.turnover.specs.signed.Told.{said}
use Rattle.turnover.specs.Counts.{Counts}
use Rattle.gpc.specs.Records.{Head, Movement, Record}
use Rattle.gpc.specs.Statements.{statement, moves_of, Spots as Places, closed, Judged as Answer, accepted, refused, Stage, top, within, judge_on}
use Rattle.record.specs.declared.HeadFields.{HeadFields}
use Rattle.record.specs.declared.Entry.{Entry}
use Rattle.record.specs.Told.{Kept, head_of, told}
use Rattle.statement.specs.declared.run.Spots.{Spots}
use Rattle.statement.specs.declared.run.Open.{Open}
use Rattle.statement.specs.declared.run.Fault.{Fault}

-- the places of a head's fields
abbrev pub spots_of : Spots → Places
spots_of p = record { new = p.new; debit = p.debit; credit = p.credit }

-- the record behind k others is none, or comes too early
abbrev pub stray : ℕ → Fault
stray k = record { behind = k; flaw = record { 0 = BadRecord; 1 = 0 } }

-- balances and turnovers of at most fourteen digits
pub record Sized (x : Open) : Type 0 where
  pub old : x.old.size ≤ most14
  pub new : x.new.size ≤ most14
  pub debit : x.debit.size ≤ most14
  pub credit : x.credit.size ≤ most14

-- .. where a statement is open
abbrev pub AllSized : Option Open → Type 0
AllSized None = Unit {0}
AllSized (Some x) = Sized x

-- x is within a statement: j records stand before its head h, and ms are its movements so far
pub record Within (x : Open) (j : ℕ) (h : Head) (ms : List Movement) : Type 0 where
  pub head : x.head ≡ j
  pub old : said x.old ≡ h.old
  pub new : said x.new ≡ h.new
  pub debit : said x.debit ≡ h.debit
  pub credit : said x.credit ≡ h.credit
  pub counts : Counts x.turns (moves_of ms)
  pub sized : Sized x

-- what is open stands for a stage: nothing at the top
abbrev pub Follows : Option Open → Stage → Type 0
Follows None top = Unit {0}
Follows None (within j h ms) = ⊥
Follows (Some x) top = ⊥
Follows (Some x) (within j h ms) = Within x j h ms

-- a statement has no more movements than there are records
abbrev pub Few : ℕ → Stage → Type 0
Few k top = Unit {0}
Few k (within j h ms) = length ms ≤ k

-- x stands for the stage behind k records
pub record Going (x : Option Open) (k : ℕ) (st : Stage) : Type 0 where
  pub follows : Follows x st
  pub few : Few k st

-- x stands for some stage behind k records
pub record Stood (x : Option Open) (k : ℕ) : Type 0 where
  pub stage : Stage
  pub going : Going x k stage

-- r is open behind a head that k records stand before
pub record Opens (k : ℕ) (x : HeadFields) (r : Open) : Type 0 where
  pub by : (κ : Kept) → Within r k (head_of κ x) []

-- r is x with a movement besides
pub record Moves (x : Open) (code amount : ℕ) (r : Open) : Type 0 where
  pub by : (j : ℕ) (h : Head) (ms : List Movement) (m : Movement) → m.code ≡ code → m.amount ≡ amount → Within x j h ms → Within r j h (ms ++ (m ∷ []))

-- what a statement that is over is told to be: its sums are refused at its head; at the top there is none
abbrev pub Closes : Places → Stage → Result (Unit {0}) Fault → Type 0
Closes p top (Ok done) = Unit {0}
Closes p top (Err f) = ⊥
Closes p (within j h ms) (Ok done) = closed p h ms ≡ got (statement h ms)
Closes p (within j h ms) (Err f) = (closed p h ms ≡ no (number_of f.flaw.0) f.flaw.1) × (f.behind ≡ j)

-- .. the one that is open
pub record Ends (p : Places) (x : Option Open) (r : Result (Unit {0}) Fault) : Type 0 where
  pub by : (st : Stage) → Follows x st → Closes p st r

-- what records come to, but for the statements
pub data Outcome : Type 0 where
  fine : Outcome
  wrong : ℕ → ℕ → ℕ → Outcome

-- .. of an answer
unfoldable pub outcome : Answer → Outcome
outcome (accepted ss) = fine
outcome (refused n k off) = wrong n k off

-- .. of a refusal
abbrev pub wrong_as : Fault → Outcome
wrong_as f = wrong (number_of f.flaw.0) f.behind f.flaw.1

-- the record r behind k others leads on to a stage from which all comes to the same; or it ends the judging
abbrev pub Steps : Places → Record → ℕ → Stage → Result Open Fault → Type 0
Steps p r k st (Ok x) =
    (next : Stage) × Going (Some x) (suc k) next × ((rs : List Record) → outcome (judge_on p k st (r ∷ rs)) ≡ outcome (judge_on p (suc k) next rs))
Steps p r k st (Err f) = (rs : List Record) → outcome (judge_on p k st (r ∷ rs)) ≡ wrong_as f

-- .. from the stage that x stands for; what is kept of the record does not matter
pub record Leads (p : Places) (x : Option Open) (e : Entry) (k : ℕ) (r : Result Open Fault) : Type 0 where
  pub by : (κ : Kept) (st : Stage) → Going x k st → Steps p (told κ e) k st r

-- the answer a, of k records, is told so
abbrev pub Tells : ℕ → Answer → Result ℕ Fault → Type 0
Tells k a (Ok n) = (n ≡ k) × (outcome a ≡ fine)
Tells k a (Err f) = outcome a ≡ wrong_as f

-- .. at the end of k records, from the stage that x stands for
pub record Finishes (p : Places) (x : Option Open) (k : ℕ) (r : Result ℕ Fault) : Type 0 where
  pub by : (st : Stage) → Follows x st → Tells k (judge_on p k st []) r
