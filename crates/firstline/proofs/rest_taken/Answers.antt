-- `rest_taken` tests the rest. Assumes nothing.
use Rattle.firstline.proofs.Steps.{rests}
use Rattle.firstline.proofs.rest_taken.Goals as goal

pub returns-then-rest_length : goal.returns-then-rest_length
returns-then-rest_length c = search rests

pub returns : goal.returns
returns c = search rests
