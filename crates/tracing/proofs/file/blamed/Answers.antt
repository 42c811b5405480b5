-- `blamed` meets its contract: what is found where judging halts. Assumes nothing.
use borrow.Author.Rules.{rules}
use Rattle.tracing.proofs.file.Stepping.{halts}
use Rattle.tracing.proofs.file.blamed.Goals as goal

pub blame_line-requires : goal.blame_line-requires
blame_line-requires c = search (halts, rules)

pub returns : goal.returns
returns c = search (halts, rules)
