-- Two letters stand behind the field.
use borrow.Author.Rules.{rules}
use Rattle.scan.proofs.line.Fields.{end-within}
use Rattle.sample.proofs.answer.Goals as goal

pub overflow_sub-line : goal.overflow_sub-line
overflow_sub-line c = search (end-within, rules)
