-- `read_request` takes the sheet from the first byte.
use borrow.Author.Rules.{rules}
use Rattle.rewriting.proofs.request.Asking.{exits}
use Rattle.rewriting.proofs.request.read_request.Goals as goal

pub returns-then-input-eq0 : goal.returns-then-input-eq0
returns-then-input-eq0 c = search exits depth 8

pub on_sheet-requires : goal.on_sheet-requires
on_sheet-requires c = search (exits, rules)

pub returns-in_default : goal.returns-in_default
returns-in_default c = search exits depth 8
