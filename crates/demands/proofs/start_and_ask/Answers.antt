-- `start_and_ask`: behind a day's start all numbers are free, and the lowest is 0.
use Rattle.demands.proofs.Questions.{start-asked}
use Rattle.demands.proofs.start_and_ask.Goals as goal

pub returns : goal.returns
returns c = let started = c.abo_register_start-done.ensures in
    start-asked _ _ _ _ _ c.abo_register_lowest-lowest.ensures c.abo_register_free-free.ensures _ started.result_value started.register_after
