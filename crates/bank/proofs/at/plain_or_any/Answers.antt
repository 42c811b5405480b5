-- `plain_or_any` meets its contract: a plain field, or any other. Assumes nothing.
use Rattle.bank.proofs.at.Plain.{plain-bank}
use Rattle.bank.proofs.at.plain_or_any.Goals as goal

pub returns-then-plain_bank : goal.returns-then-plain_bank
returns-then-plain_bank c = search plain-bank
