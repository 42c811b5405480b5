-- `spelling::linelen::account_space_len` meets its contract. Assumes nothing.
use borrow.Author.Rules.{rules}
use native.Mathlib.Omega.{arith}
use Rattle.spelling.proofs.linelen.Lengths.{account-low, accounts}
use Rattle.spelling.proofs.linelen.account_space_len.Goals as goal

pub overflow_add-result : goal.overflow_add-result
overflow_add-result c = omega (arith, account-low _ _ _ c.account_len.ensures)

pub returns : goal.returns
returns c = search (accounts, rules)
