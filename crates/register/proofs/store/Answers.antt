-- `store` meets its contract: the date is put, and the words behind it. Assumes nothing.
use Rattle.register.proofs.Laid.{stores}
use borrow.Author.Rules.{rules}
use Rattle.register.proofs.store.Goals as goal

pub put_words-requires : goal.put_words-requires
put_words-requires c = search (stores, rules)

pub returns : goal.returns
returns c = search (stores, rules)
