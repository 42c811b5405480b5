-- `judge_bank` meets its contract: where every bank may be due, the field is judged as it stands. Assumes nothing.
use Rattle.bank.proofs.at.Exits.{field-any}
use Rattle.bank.proofs.at.judge_bank.Goals as goal

pub returns-in-Any : goal.returns-in-Any
returns-in-Any c = search field-any
