-- `name_fine` meets its contract: a text that is empty, inside what was lent, or outside. Assumes nothing.
use borrow.Author.Rules.{rules}
use Prim.Native.Nat.{◌+◌}
use native.Mathlib.Omega.{arith}
use lib.ListN.{length}
use Rattle.rows.proofs.read.Laws.{lies_in}
use Rattle.rows.proofs.proper.Exits.{places}
use Rattle.rows.proofs.proper.name_fine.Goals as goal

pub returns-then-p-eq0 : goal.returns-then-p-eq0
returns-then-p-eq0 c = search places

pub overflow_add-to : goal.overflow_add-to
overflow_add-to c = let a = c.args in omega (arith, lies_in (a.p.at + a.p.len) (length a.texts.now) _ c.lies.ensures c.if-lies.true)

pub slice_bounds-name_proper-end : goal.slice_bounds-name_proper-end
slice_bounds-name_proper-end c = search (lies_in, rules)

pub returns-then-lies : goal.returns-then-lies
returns-then-lies c = search places

pub returns : goal.returns
returns c = search places
