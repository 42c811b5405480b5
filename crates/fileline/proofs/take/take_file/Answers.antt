-- `take_file` meets its contract. Assumes nothing.
use borrow.Author.Rules.{rules}
use Rattle.fileline.proofs.take.Files.{files}
use Rattle.fileline.proofs.take.take_file.Goals as goal

pub four-requires : goal.four-requires
four-requires c = search (files, rules)

pub four-requires-2 : goal.four-requires-2
four-requires-2 c = search (files, rules)

pub overflow_mul-result : goal.overflow_mul-result
overflow_mul-result c = search (files, rules)

pub two-requires : goal.two-requires
two-requires c = search (files, rules)

pub overflow_add-result : goal.overflow_add-result
overflow_add-result c = search (files, rules)

pub returns : goal.returns
returns c = search files
