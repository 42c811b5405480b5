-- `text::fit_at` meets its contract. Assumes nothing.
use borrow.Author.Rules.{rules}
use Rattle.text.proofs.Turns.{finishes}
use Rattle.text.proofs.fit_at.Goals as goal

pub fit_parts-requires : goal.fit_parts-requires
fit_parts-requires c = search (finishes, rules)

pub returns : goal.returns
returns c = search finishes
