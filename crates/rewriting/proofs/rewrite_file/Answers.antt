-- `rewrite_file` reads, and then writes what it read or why it was refused.
use Prim.Native.Nat.{◌≤◌}
use native.Mathlib.Omega.{arith}
use borrow.Author.Rules.{rules}
use Rattle.rewriting.proofs.Exits.{rows_few, files}
use Rattle.rewriting.proofs.rewrite_file.Goals as goal

pub overflow_mul-end : goal.overflow_mul-end
overflow_mul-end c = let few : c.read_file-a.result.rows ≤ 1024 = search rows_few in omega (arith, few)

pub slice_bounds-write_back-end : goal.slice_bounds-write_back-end
slice_bounds-write_back-end c = let few : c.read_file-a.result.rows ≤ 1024 = search rows_few in omega (arith, few)

pub returns-then-a-eq0 : goal.returns-then-a-eq0
returns-then-a-eq0 c = search files

pub put_refused-requires : goal.put_refused-requires
put_refused-requires c = search (files, rules)

pub returns : goal.returns
returns c = search files
