-- `spelling::linelen::file_len` meets its contract. Assumes nothing.
use borrow.Author.Rules.{rules}
use Rattle.spelling.proofs.linelen.Lengths.{file-long}
use Rattle.spelling.proofs.linelen.file_len.Goals as goal

pub returns : goal.returns
returns c = search (file-long, rules)
