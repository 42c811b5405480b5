-- `rewrite` answers the request.
use borrow.Author.Rules.{rules}
use Rattle.rewriting.proofs.Exits.{requests}
use Rattle.rewriting.proofs.rewrite.Goals as goal

pub put_refused-requires : goal.put_refused-requires
put_refused-requires c = search (requests, rules)

pub slice_bounds-rewrite_file-count : goal.slice_bounds-rewrite_file-count
slice_bounds-rewrite_file-count c = search (requests, rules)

pub slice_bounds-rewrite_file-start : goal.slice_bounds-rewrite_file-start
slice_bounds-rewrite_file-start c = search (requests, rules)

pub rewrite_file-requires : goal.rewrite_file-requires
rewrite_file-requires c = search (requests, rules)

pub returns-in-Err : goal.returns-in-Err
returns-in-Err c = search requests

pub returns-in-Ok : goal.returns-in-Ok
returns-in-Ok c = search requests
