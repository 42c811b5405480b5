-- `put_whole` meets its contract: 16 before anything is put, or the text in front.
use borrow.Author.Rules.{rules}
use Rattle.explain.proofs.Exits.{outputs}
use Rattle.explain.proofs.put_whole.Goals as goal

pub text_len-n-requires : goal.text_len-n-requires
text_len-n-requires c = search (outputs, rules)

pub returns-then-out-n : goal.returns-then-out-n
returns-then-out-n c = search (outputs, rules)

pub put_text-requires : goal.put_text-requires
put_text-requires c = search (outputs, rules)

pub returns : goal.returns
returns c = search (outputs, rules)
