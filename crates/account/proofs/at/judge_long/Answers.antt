-- `judge_long` meets its contract: more than ten digits with no dash. Assumes nothing.
use Rattle.account.proofs.at.Judged.{longs}
use Rattle.account.proofs.at.judge_long.Goals as goal

pub returns-then-account_ok : goal.returns-then-account_ok
returns-then-account_ok c = λ v least n g l. search longs

pub returns-then-joined : goal.returns-then-joined
returns-then-joined c = λ v least n g l. search longs

pub returns : goal.returns
returns c = λ v least n g l. search longs
