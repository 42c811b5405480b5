-- `judge_file` meets its contract: an empty file, a first line, or another kind of line. Assumes nothing.
use borrow.Author.Rules.{rules}
use Rattle.std.proofs.lemmas.Result.{err_from_is_err_and}
use Rattle.judge.proofs.file.Heads.{none_seen, heads}
use Rattle.judge.proofs.file.judge_file.Goals as goal

pub returns-then-f-eq0-clause-result_value : goal.returns-then-f-eq0-clause-result_value
returns-then-f-eq0-clause-result_value c = search (heads, rules)

pub returns-in_err-ended-in-Head-clause-result_value : goal.returns-in_err-ended-in-Head-clause-result_value
returns-in_err-ended-in-Head-clause-result_value c =
    let p = err_from_is_err_and c.from_residual.result c.from_residual.ensures.1 in
    rw (p.1, p.2) ((none_seen _ _ _ _ _ c.none.ensures c.from_first.ensures.by_index).1 _ c.in_err-ended-in-Head.was)

pub returns-in_ok-ended-in-Head-clause-result_value : goal.returns-in_ok-ended-in-Head-clause-result_value
returns-in_ok-ended-in-Head-clause-result_value c = (none_seen _ _ _ _ _ c.none.ensures c.from_first.ensures.by_index).0 _ c.in_ok-ended-in-Head.was

pub returns-in_default : goal.returns-in_default
returns-in_default c = search (heads, rules)
