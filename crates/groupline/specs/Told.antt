-- What the answer of the line's judge stands for in document 01, "Lines" and "Numbers returned". Assumes nothing.
use Rattle.std.specs.Prelude.{◌^◌, ◌≤◌, ◌<◌, ◌≡◌, Bool, Result, Ok, Err}
use Rattle.refusal.specs.declared.Flaw.{Flaw}
use Rattle.refusal.specs.Numbers.{number_of}
use Rattle.paper.specs.Accounts.{Account, is_nobody}
use Rattle.paper.specs.Entries.{group, total_at, Listed, Counted, said, no, counted}
use Rattle.groupline.specs.declared.GroupLine.{GroupLine}

-- total and due date of a group with this payer, its warnings and its total's place; or the refusal's number and its offset in the line
abbrev pub told : Account → Result GroupLine Flaw → Counted
told payer (Ok g) = said (group payer g.total g.date) g.warnings (total_at g.spot)
told payer (Err x) = no (number_of x.0) x.1

-- t is whether the group is single
abbrev pub Marked : Bool → Result GroupLine Flaw → Type 0
Marked t (Ok g) = g.single ≡ t
Marked t (Err x) = Unit

-- the line says this of some payer, who is nobody where the group is single
pub record Tells (x : Listed) (r : Result GroupLine Flaw) : Type 0 where
  pub payer : Account
  pub says : told payer r ≡ counted x
  pub single : Marked (is_nobody payer) r

-- a total has up to 14 digits, and a line warns once at most
abbrev pub Low : Result GroupLine Flaw → Type 0
Low (Ok g) = (g.total < 10 ^ 14) × (g.warnings ≤ 1)
Low (Err x) = Unit
