-- `check_rest`: the first line's rest, of text bytes. Assumes nothing.
use Rattle.fault.proofs.field.Rulings.{rests}
use Rattle.fault.proofs.field.check_rest.Goals as goal

pub returns-then-all_text : goal.returns-then-all_text
returns-then-all_text c = search rests

pub returns-then-rest_length : goal.returns-then-rest_length
returns-then-rest_length c = search rests

pub returns : goal.returns
returns c = search rests
