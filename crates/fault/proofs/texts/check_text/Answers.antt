-- `check_text`: first its bytes, then by the style. Assumes nothing.
use Rattle.fault.proofs.texts.Rules.{texts}
use Rattle.fault.proofs.texts.check_text.Goals as goal

pub returns-then-av : goal.returns-then-av
returns-then-av c = search texts

pub returns-then-is_message : goal.returns-then-is_message
returns-then-is_message c = search texts

pub returns : goal.returns
returns c = search texts
