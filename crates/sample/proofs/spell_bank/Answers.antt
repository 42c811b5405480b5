-- The room for a bank field is the length that was asked for.
use borrow.Author.Rules.{rules}
use native.Mathlib.Omega.{arith}
use Rattle.bank.proofs.Spelled.{spell-bank-most}
use Rattle.sample.proofs.spell_bank.Goals as goal

pub put_bank-end-requires : goal.put_bank-end-requires
put_bank-end-requires c = let a = c.args in
    (omega (arith, spell-bank-most a.bank a.constant a.priority), search rules, search rules, search rules)
