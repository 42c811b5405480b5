-- `walk_file`: `1 KIND NUMBER BANK`, of a line that begins so. Assumes nothing.
use borrow.Author.Rules.{rules}
use Rattle.std.proofs.lemmas.Result.{err_from_is_err_and}
use Rattle.why.specs.Walk.{why_file}
use Rattle.why.specs.Names.{field_number}
use Rattle.why.specs.Fields.{rules_of}
use Rattle.fault.proofs.line.Steps.{numbered}
use Rattle.fault.proofs.line.Next.{walking}
use Rattle.fault.proofs.line.walk_file.Goals as goal

pub slice_bounds-check_kind-end : goal.slice_bounds-check_kind-end
slice_bounds-check_kind-end c = search (numbered, rules)

pub walk_number-requires : goal.walk_number-requires
walk_number-requires c = search (walking, c.in_ok-next.was)

pub returns-in_err-next : goal.returns-in_err-next
unfolding rules_of field_number why_file
returns-in_err-next c =
    let p = err_from_is_err_and c.from_residual.result c.from_residual.ensures.1 in
    rw (p.1, p.2) (search (numbered, walking, c.in_err-next.was))

pub returns : goal.returns
unfolding rules_of field_number why_file
returns c = search (numbered, walking, c.in_ok-next.was)
