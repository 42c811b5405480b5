-- `text::extent::parts_len` meets its contract. Assumes nothing.
use native.Mathlib.Omega.{arith}
use borrow.Author.Rules.{rules}
use Rattle.text.proofs.extent.Lengths.{lens}
use Rattle.text.proofs.extent.parts_len.Goals as goal

pub returns-then-b-eq0 : goal.returns-then-b-eq0
returns-then-b-eq0 c = search (lens, rules)

pub returns-then-c-eq0 : goal.returns-then-c-eq0
returns-then-c-eq0 c = search (lens, rules)

pub returns-then-d-eq0 : goal.returns-then-d-eq0
returns-then-d-eq0 c = search (lens, rules)

pub returns : goal.returns
returns c = record { value = search lens; upper_bound = omega arith }
