-- `take_text` meets its contract: what was judged is found again. Assumes nothing.
use Rattle.itemline.proofs.take.Named.{judged-texts}
use Rattle.itemline.proofs.take.take_text.Goals as goal

pub take_message-requires-clause-s_value : goal.take_message-requires-clause-s_value
take_message-requires-clause-s_value c = search judged-texts

pub returns-in-Err-clause-result_value : goal.returns-in-Err-clause-result_value
returns-in-Err-clause-result_value c = search judged-texts

pub returns-in-Ok-Name-clause-result_value : goal.returns-in-Ok-Name-clause-result_value
returns-in-Ok-Name-clause-result_value c = search judged-texts

pub returns-in-Ok-Name-clause-held : goal.returns-in-Ok-Name-clause-held
returns-in-Ok-Name-clause-held c = search judged-texts

pub returns-in-Ok-Message-clause-result_value : goal.returns-in-Ok-Message-clause-result_value
returns-in-Ok-Message-clause-result_value c = search judged-texts
