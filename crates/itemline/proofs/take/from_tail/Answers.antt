-- `from_tail` meets its contract. Assumes nothing.
use borrow.Author.Rules.{rules}
use Rattle.itemline.proofs.take.Wholes.{wholes}
use Rattle.itemline.proofs.take.from_tail.Goals as goal

pub take_text-requires-clause-s_value : goal.take_text-requires-clause-s_value
take_text-requires-clause-s_value c = search (wholes, rules)

pub whole-requires-in-Some : goal.whole-requires-in-Some
whole-requires-in-Some c = search (wholes, rules)

pub returns-in-None-clause-result_value : goal.returns-in-None-clause-result_value
returns-in-None-clause-result_value c = search wholes

pub returns-in-None-clause-sound : goal.returns-in-None-clause-sound
returns-in-None-clause-sound c = search (wholes, rules)

pub returns-in-Some-clause-result_value : goal.returns-in-Some-clause-result_value
returns-in-Some-clause-result_value c = search wholes

pub returns-in-Some-clause-sound : goal.returns-in-Some-clause-sound
returns-in-Some-clause-sound c = search (wholes, rules)
