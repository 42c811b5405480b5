-- `spelling::putlines::put_file_line` meets its contract. Assumes nothing.
use borrow.Author.Rules.{rules}
use Rattle.spelling.proofs.putlines.File.{files}
use Rattle.spelling.proofs.putlines.put_file_line.Goals as goal

pub put_bytes-e-requires : goal.put_bytes-e-requires
put_bytes-e-requires c = search (files, rules)

pub fixed_space-f-requires : goal.fixed_space-f-requires
fixed_space-f-requires c = search (files, rules)

pub fixed_space-g-requires : goal.fixed_space-g-requires
fixed_space-g-requires c = search (files, rules)

pub code_end-requires : goal.code_end-requires
code_end-requires c = search (files, rules)

pub returns : goal.returns
returns c = search files
