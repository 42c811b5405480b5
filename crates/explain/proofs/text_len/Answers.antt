-- `text_len` answers the place behind the text, which is its length, since it begins at 0 and stays below 2^64.
use borrow.Author.Rules.{rules}
use Rattle.explain.proofs.Lengths.{text-counted}
use Rattle.explain.proofs.text_len.Goals as goal

pub put_text-requires : goal.put_text-requires
put_text-requires c = search (text-counted, rules)

pub returns : goal.returns
returns c = search (text-counted, rules)
