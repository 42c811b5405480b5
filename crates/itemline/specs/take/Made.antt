-- What the walk over an item's line makes of the values that were taken so far. Document 01, "Lines", item. Assumes nothing.
use Rattle.std.specs.Prelude.{ℕ, ◌+◌, ◌≤◌}
use Rattle.paper.specs.Accounts as paper
use Rattle.paper.specs.BankField.{Bank}
use Rattle.paper.specs.Batch.{most14}
use Rattle.paper.specs.Texts.{Noted}
use Rattle.paper.specs.Entries.{Counted}
use Rattle.text.specs.declared.span.Spans.{Spans}
use Rattle.itemline.specs.declared.Fields.{Fields}
use Rattle.itemline.specs.Walk.{item_said}
use Rattle.account.specs.declared.at.Account.{Account}
use Rattle.itemline.specs.declared.take.Paid.{Paid}
use Rattle.itemline.specs.declared.take.Front.{Front}

-- an account that was taken
abbrev pub taken : Account → paper.Account
taken a = paper.account a.prefix a.base

-- the item, behind the amount
abbrev pub made_paid : Paid → ℕ → Bank → ℕ → Noted → Counted
made_paid x = item_said (paper.account x.payerprefix x.payerbase) (paper.account x.payeeprefix x.payeebase) x.amount

-- the item, behind the bank field
unfoldable pub made : Front → ℕ → Noted → Counted
made x =
    made_paid x.paid x.variable
    (record { bank = x.bank; constant = x.constant; priority = x.priority; warnings = x.warnings })

-- the amount has 14 digits at most, and the bank field warns once at most
pub record Small (x : Front) : Type 0 where
  pub low : x.paid.amount ≤ most14
  pub few : x.warnings ≤ 1

-- its fields, with a specific symbol and texts
unfoldable pub with_texts : Front → ℕ → Spans → Fields
with_texts x specific texts =
    record {
      payerprefix = x.paid.payerprefix;
      payerbase = x.paid.payerbase;
      payeeprefix = x.paid.payeeprefix;
      payeebase = x.paid.payeebase;
      bank = x.bank;
      amount = x.paid.amount;
      variable = x.variable;
      specific = specific;
      constant = x.constant;
      priority = x.priority;
      warnings = x.warnings + texts.warnings;
      texts = texts;
    }
