-- `on_sheet` cuts the first line off, reads today behind its letter, and then tests the input's length.
use borrow.Author.Rules.{rules}
use Rattle.rewriting.proofs.request.Asking.{exits}
use Rattle.rewriting.proofs.request.on_sheet.Goals as goal

pub slice_bounds-read_today-count : goal.slice_bounds-read_today-count
slice_bounds-read_today-count c = search (exits, rules)

pub slice_bounds-read_today-start : goal.slice_bounds-read_today-start
slice_bounds-read_today-start c = search (exits, rules)

pub returns-then-input-gt8192 : goal.returns-then-input-gt8192
returns-then-input-gt8192 c = search exits depth 8

pub returns-in_default : goal.returns-in_default
returns-in_default c = search exits depth 8

pub returns : goal.returns
returns c = search exits depth 8
