-- `put_said` looks for the number in row after row: what the whole table says is what those from the next one on say. Assumes nothing.
use Rattle.std.proofs.Common.{◌≡◌, drop}
use Rattle.sentences.proofs.Saying.{in_table}
use Rattle.sentences.proofs.phrases.put_said.Given as goal

abbrev pub invariant-loop-number : goal.invariant-loop-number
invariant-loop-number l = (l.out ≡ l.initial.out) × (in_table l.n l.table ≡ in_table l.n (drop l.number-index l.table))
