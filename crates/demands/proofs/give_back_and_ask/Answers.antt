-- `give_back_and_ask`: behind a number given back the lowest free one is not above it, and some are free.
use Rattle.demands.proofs.Questions.{back-asked}
use Rattle.demands.proofs.give_back_and_ask.Goals as goal

pub returns : goal.returns
returns c = let given = c.abo_register_give_back-done.ensures in
    back-asked _ _ _ _ _ c.abo_register_lowest-lowest.ensures c.abo_register_free-free.ensures _ given.result_value given.register_after
