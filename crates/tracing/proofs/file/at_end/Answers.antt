-- `at_end` meets its contract: the counts behind an account file, or what is found at an early end. Assumes nothing.
use borrow.Author.Rules.{rules}
use Rattle.tracing.proofs.file.Reaching.{ends_file}
use Rattle.tracing.proofs.file.at_end.Goals as goal

pub blame_end-requires : goal.blame_end-requires
blame_end-requires c = search (ends_file, rules)

pub returns-then-files-eq0 : goal.returns-then-files-eq0
returns-then-files-eq0 c = search (ends_file, rules)

pub blame_end-requires-in-First : goal.blame_end-requires-in-First
blame_end-requires-in-First c = search (ends_file, rules)

pub blame_end-requires-in-Group : goal.blame_end-requires-in-Group
blame_end-requires-in-Group c = search (ends_file, rules)

pub blame_end-requires-in-Item : goal.blame_end-requires-in-Item
blame_end-requires-in-Item c = search (ends_file, rules)

pub returns-else-files-eq0 : goal.returns-else-files-eq0
returns-else-files-eq0 c = search (ends_file, rules)

pub returns-in-First : goal.returns-in-First
returns-in-First c = search (ends_file, rules)

pub returns-in-Group : goal.returns-in-Group
returns-in-Group c = search (ends_file, rules)

pub returns-in-Item : goal.returns-in-Item
returns-in-Item c = search (ends_file, rules)
