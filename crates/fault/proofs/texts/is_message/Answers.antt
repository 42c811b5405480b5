-- `is_message`: whether the bytes are a text's: text bytes, and off S one or more, the first not a space. Assumes nothing.
use Rattle.fault.proofs.texts.Rules.{messages}
use Rattle.fault.proofs.texts.is_message.Goals as goal

pub returns-then-av : goal.returns-then-av
returns-then-av c = search messages

pub returns-then-all_text : goal.returns-then-all_text
returns-then-all_text c = search messages

pub returns : goal.returns
returns c = search messages
