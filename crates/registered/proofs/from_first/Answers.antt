-- `from_first` meets its contract: 23 at the date, a refusal told apart, or what the judging of the file comes to. Assumes nothing.
use Rattle.registered.proofs.Ends.{ends}
use Rattle.registered.proofs.from_first.Goals as goal

pub returns-then-other_day : goal.returns-then-other_day
returns-then-other_day c = search ends

pub returns-in-Ok : goal.returns-in-Ok
returns-in-Ok c = search ends

pub returns-in-Err : goal.returns-in-Err
returns-in-Err c = search ends
