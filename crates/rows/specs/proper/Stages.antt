-- An item's fields in three stages, as the code tests them one after another. Assumes nothing.
use Rattle.std.specs.Prelude.{ℕ, ◌+◌, ◌≡◌, Bool, false, List, Result, ltb, leb}
use Rattle.base.specs.Pick.{pick}
use Rattle.paper.specs.Accounts.{account, account_proper}
use Rattle.paper.specs.Amounts.{amount_proper}
use Rattle.paper.specs.BankField.{bank_proper, priority_proper}
use Rattle.paper.specs.Texts.{part_proper, name_proper}
use Rattle.paper.specs.Batch.{most14}
use Rattle.paper.specs.Proper.{Verdict, check, item_payer_proper, item_proper}
use Rattle.paper.specs.Rows.{reference_proper}
use Rattle.rows.specs.declared.field.Field.{Field}
use Rattle.rows.specs.declared.read.ItemRow.{ItemRow}
use Rattle.rows.specs.read.Told.{text_of_span, item_of}
use Rattle.rows.specs.read.After.{after}

-- who pays whom how much
unfoldable pub money_proper : ℕ → Bool → ℕ → ItemRow → Verdict → Verdict
money_proper k single before x rest =
    check k 1 (item_payer_proper single (account x.payerprefix x.payerbase))
    (check k 3 (account_proper (account x.payeeprefix x.payeebase))
    (check k 5 (bank_proper x.bank)
    (check k 6 (pick (amount_proper most14 x.amount) (leb (before + x.amount) most14) false) rest)))

-- the symbols and the priority
unfoldable pub symbols_proper : ℕ → ItemRow → Verdict → Verdict
symbols_proper k x rest =
    check k 7 (ltb x.variable 10000000000)
    (check k 8 (ltb x.specific 10000000000)
    (check k 9 (ltb x.constant 10000)
    (check k 10 (priority_proper x.priority) rest)))

-- the four parts and the name, in the lent texts t
unfoldable pub texts_proper : ℕ → List ℕ → ItemRow → Verdict → Verdict
texts_proper k t x rest =
    check k 11 (part_proper (text_of_span t x.part1))
    (check k 13 (part_proper (text_of_span t x.part2))
    (check k 15 (part_proper (text_of_span t x.part3))
    (check k 17 (part_proper (text_of_span t x.part4))
    (check k 19 (name_proper (text_of_span t x.name)) rest))))

-- ---- the three together, and behind them the reference

-- c is the answer of all tests of the row x, in a group that is single or not and whose items before it have this sum
pub record ItemTested (t : List ℕ) (x : ItemRow) (single : Bool) (sum : ℕ) (c : Result (Unit {0}) Field) : Type 0 where
  pub same : (k : ℕ) (rest : Verdict) → after k c rest ≡ item_proper k single sum (item_of t x) (check k 21 (reference_proper x.reference) rest)
