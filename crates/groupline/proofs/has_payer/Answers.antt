-- `has_payer` meets its contract: always, or by the line's spaces. Assumes nothing.
use borrow.Author.Rules.{rules}
use Rattle.groupline.proofs.Fields.{payers}
use Rattle.groupline.proofs.Spaces.{places}
use Rattle.groupline.proofs.has_payer.Goals as goal

pub returns-then-always : goal.returns-then-always
returns-then-always c = search payers

pub third_space-requires : goal.third_space-requires
third_space-requires c = search (places, rules)

pub returns-then-is_spaced : goal.returns-then-is_spaced
returns-then-is_spaced c = search payers

pub returns : goal.returns
returns c = search payers
