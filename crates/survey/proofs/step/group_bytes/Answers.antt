-- `group_bytes`: the bytes of the line, and of what it closes. Assumes nothing.
use borrow.Author.Rules.{rules}
use Rattle.survey.proofs.state.Bytes.{adding}
use Rattle.survey.proofs.step.group_bytes.Goals as goal

pub returns : goal.returns
returns c = record { by_index = search adding; upper_bound = search rules }
