-- What is taken of a line that was judged before. Document 01, "Lines". Assumes nothing.
use Rattle.std.specs.Prelude.{ℕ, ◌≡◌, List}
use Rattle.paper.specs.Warnings.{Notice}
use Rattle.paper.specs.Accounts.{account}
use Rattle.paper.specs.Entries.{group, Places, Listed, said}
use Rattle.groupline.specs.declared.take.Group.{Group}

-- the line says a group with this payer and date; its total and warnings are not taken
pub record Opens (r : Listed) (g : Group) : Type 0 where
  pub total : ℕ
  pub warnings : List Notice
  pub places : Places
  pub says : r ≡ said (group (account g.prefix g.base) total g.date) warnings places
