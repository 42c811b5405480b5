-- Of what is known where a line is reached, what a line of each kind asks: document 01, "Testing order". Assumes nothing.
use Rattle.std.specs.Prelude.{ℕ, ◌≡◌, List}
use Rattle.paper.specs.Batch.{Header}
use Rattle.paper.specs.Entries.{Kind, head_line, file_line, group_line, item_line, group_end, file_end}
use Rattle.paper.specs.Spells.{Context, after}
use Rattle.fileline.specs.seen.Bits.{Holds}
use Rattle.fault.specs.declared.known.Bearing.{Bearing}

-- an account file's number is judged by the header's interval and the numbers before it
pub record Numbered (x : Bearing) (c : Context) : Type 0 where
  pub header : Header
  pub before : List ℕ
  pub numbers : c.numbers ≡ after header before
  pub holds : Holds x.seen.words before
  pub first : header.from ≡ x.from
  pub last : header.to ≡ x.to

-- an item's line, by kind and date, and by who pays
pub record Grouped (x : Bearing) (c : Context) : Type 0 where
  pub kind : c.kind ≡ x.kind
  pub date : c.date ≡ x.date
  pub single : c.single ≡ x.single

-- what a line of each kind asks of its context
abbrev pub Bears : Bearing → Context → Kind → Type 0
Bears x c head_line = Unit {0}
Bears x c file_line = Numbered x c
Bears x c group_line = c.kind ≡ x.kind
Bears x c item_line = Grouped x c
Bears x c group_end = Unit {0}
Bears x c file_end = Unit {0}
