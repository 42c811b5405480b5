-- `item_fits` meets its contract: the file's items first, then the payee bank, then the item's other tests. Assumes nothing.
use Rattle.survey.proofs.step.Finding.{fitting}
use Rattle.survey.proofs.step.item_fits.Goals as goal

pub returns-then-limits-all : goal.returns-then-limits-all
returns-then-limits-all c = λ k rest. search fitting depth 12

pub returns-then-not-due : goal.returns-then-not-due
returns-then-not-due c = λ k rest. search fitting depth 12

pub returns : goal.returns
returns c = λ k rest. search (fitting, c.item_carried.ensures) depth 12
