-- What the answers of a field's readers stand for: numbers with a sign, and a record's type. Document 02, W-204. Assumes nothing.
use Rattle.std.specs.Prelude.{ℕ, ◌+◌, ◌≤◌, Option, Some, None, Result, Ok, Err, List}
use Rattle.refusal.specs.declared.Flaw.{Flaw}
use Rattle.refusal.specs.Numbers.{number_of}
use Rattle.paper.specs.Batch.{most14}
use Rattle.paper.specs.Entries.{Said, got, no}
use Rattle.turnover.specs.declared.signed.Signed.{Signed as Number}
use Rattle.turnover.specs.signed.Told.{said as number}
use Rattle.gpc.specs.Signed.{Signed, on_signed}
use Rattle.gpc.specs.Records.{Record, head_is, movement_is, no_record, read_head, read_movement}
use Rattle.record.specs.declared.file.Pair.{Pair}
use Rattle.record.specs.declared.file.Kind.{Kind}
use Rattle.record.specs.declared.file.Kind.TheVariants as kind

-- a number with a sign, or the place where it is refused
abbrev pub told_signed : Result Number Flaw → Said Signed
told_signed (Ok x) = got (number x)
told_signed (Err x) = no (number_of x.0) x.1

-- no larger than fourteen digits
abbrev pub SmallSigned : Result Number Flaw → Type 0
SmallSigned (Ok x) = x.size ≤ most14
SmallSigned (Err x) = Unit {0}

-- two numbers
pub record Two : Type 0 where
  pub first : Signed
  pub second : Signed

-- these two
abbrev pub two : Signed → Signed → Two
two x y = record { first = x; second = y }

-- two numbers with the same signs, one behind the other
unfoldable pub pair_at : ℕ → ℕ → List ℕ → Said Two
pair_at plus at s = on_signed plus at s λ x. on_signed plus (at + 15) s λ y. got (two x y)

-- both, or the place where one is refused
abbrev pub told_pair : Result Pair Flaw → Said Two
told_pair (Ok p) = got (two (number p.first) (number p.second))
told_pair (Err x) = no (number_of x.0) x.1

-- both no larger than fourteen digits
abbrev pub SmallPair : Result Pair Flaw → Type 0
SmallPair (Ok p) = (p.first.size ≤ most14) × (p.second.size ≤ most14)
SmallPair (Err x) = Unit {0}

-- what the type says a record's bytes are to be read as
unfoldable pub read_as : Option Kind → List ℕ → Record
read_as (Some kind.Head) s = head_is (read_head s)
read_as (Some kind.Movement) s = movement_is (read_movement s)
read_as None s = no_record
