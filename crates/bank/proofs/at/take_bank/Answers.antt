-- `take_bank` meets its contract. Assumes nothing.
use native.Mathlib.Omega.{arith}
use borrow.Author.Rules.{rules}
use Rattle.bank.proofs.at.Taken.{eight-inside, banks}
use Rattle.bank.proofs.at.take_bank.Goals as goal

pub bank_from-from-requires : goal.bank_from-from-requires
bank_from-from-requires c = search (banks, rules)

pub ninth_digit-d-requires : goal.ninth_digit-d-requires
ninth_digit-d-requires c = search (banks, rules)

pub four-bank-requires : goal.four-bank-requires
four-bank-requires c = search (banks, rules)

pub overflow_add-from : goal.overflow_add-from
overflow_add-from c = let got = c.bank_from-from in
    omega (arith, eight-inside c.args.ranked c.args.s.now c.args.at c.requires.s_value c.requires.at_in_bounds got.result got.ensures)

pub four-constant-requires : goal.four-constant-requires
four-constant-requires c = search (banks, rules)

pub overflow_add-end : goal.overflow_add-end
overflow_add-end c = let got = c.bank_from-from in
    omega (arith, eight-inside c.args.ranked c.args.s.now c.args.at c.requires.s_value c.requires.at_in_bounds got.result got.ensures)

pub returns-then-d-lt1 : goal.returns-then-d-lt1
returns-then-d-lt1 c = search banks

pub returns-then-d-lt3 : goal.returns-then-d-lt3
returns-then-d-lt3 c = search banks

pub returns : goal.returns
returns c = search banks
