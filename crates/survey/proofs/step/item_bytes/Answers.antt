-- `item_bytes`: the bytes of the line. Assumes nothing.
use borrow.Author.Rules.{rules}
use Rattle.survey.proofs.state.Bytes.{adding}
use Rattle.survey.proofs.step.item_bytes.Goals as goal

pub returns : goal.returns
returns c = record { adds = search adding; upper_bound = search rules }
