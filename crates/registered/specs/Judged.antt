-- What the judging of a file against a loaded register comes to. Request W-207. Assumes nothing.
use Rattle.std.specs.Prelude.{ℕ, ◌≡◌, Result, Ok, Err, List, length}
use Rattle.sheet.specs.declared.Sheet.{Sheet}
use Rattle.paper.specs.Batch.{Batch, things}
use Rattle.paper.specs.Judge.{Accepted, seen, judge}
use Rattle.fileline.specs.seen.Bits.{bit}
use Rattle.tally.specs.Short.{Brief, brief}
use Rattle.judge.specs.declared.file.Ended.{Ended}
use Rattle.judge.specs.declared.refused.Refused.{Refused}
use Rattle.judge.specs.file.Answer.{head_of, told, KeptEnd}
use Rattle.register.specs.Marks.{with}
use Rattle.register.specs.Register.{Register, used}
use Rattle.against.specs.Against.{judge_on}

-- a refusal, or an accepted file's header and its counts of rows and warnings
abbrev pub told_end : List ℕ → Result Ended Refused → Brief
told_end f (Ok e) = told f (Ok e.accepted)
told_end f (Err r) = told f (Err r)

-- an accepted file: its batch, which the file alone is accepted as too, and in the words its numbers besides those that were marked
pub record Numbered (reg : Register) (sh : Sheet) (today : ℕ) (f : List ℕ) (e : Ended) : Type 0 where
  pub batch : Batch
  pub alone : judge sh today f ≡ Accepted (head_of f e.accepted.head) batch e.accepted.warnings
  pub against : judge_on reg sh today f ≡ Accepted (head_of f e.accepted.head) batch e.accepted.warnings
  pub rows_all : e.accepted.rows ≡ length (things batch)
  pub holds : bit e.seen.words ≡ with (seen batch) (used reg)

-- r is what the file comes to against the register
pub record Judged (reg : Register) (sh : Sheet) (today : ℕ) (f : List ℕ) (r : Result Ended Refused) : Type 0 where
  pub same : told_end f r ≡ brief (judge_on reg sh today f)
  pub kept : KeptEnd f r
  pub numbered : (e : Ended) → r ≡ Ok e → Numbered reg sh today f e
