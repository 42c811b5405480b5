-- `check_series`: the first three digits of an account file's number, where they are judged. Assumes nothing.
use Rattle.fault.proofs.field.Numbers.{judged}
use Rattle.fault.proofs.field.check_series.Goals as goal

pub returns-then-first-from : goal.returns-then-first-from
returns-then-first-from c = search judged

pub returns-then-to-first : goal.returns-then-to-first
returns-then-to-first c = search judged

pub returns-then-has : goal.returns-then-has
returns-then-has c = search judged

pub returns : goal.returns
returns c = search judged
