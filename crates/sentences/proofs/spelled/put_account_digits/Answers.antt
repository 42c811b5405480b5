-- `put_account_digits` puts how many digits an account with no dash has.
use Rattle.sentences.proofs.spelled.Digits.{most-digits}
use Rattle.sentences.proofs.spelled.put_account_digits.Goals as goal

pub returns : goal.returns
returns c = search most-digits
