-- `put_findings` meets its contract: the one finding, nothing where nothing is warned of, or every warning.
use borrow.Author.Rules.{rules}
use Rattle.findings.proofs.outcome.Comes.{puts}
use Rattle.findings.proofs.outcome.put_findings.Goals as goal

pub put_finding-requires : goal.put_finding-requires
put_finding-requires c = search (puts, rules)

pub returns-then-tallied-eq0 : goal.returns-then-tallied-eq0
returns-then-tallied-eq0 c = search (puts, rules)

pub put_warnings-requires : goal.put_warnings-requires
put_warnings-requires c = search (puts, rules)

pub returns-in-Err : goal.returns-in-Err
returns-in-Err c = search (puts, rules)

pub returns-else-tallied-eq0 : goal.returns-else-tallied-eq0
returns-else-tallied-eq0 c = search (puts, rules)
