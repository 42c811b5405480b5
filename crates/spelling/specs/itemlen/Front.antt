-- An item's line up to its tail. Document 01, "Lines", item. Assumes nothing.
use Rattle.std.specs.Prelude.{ℕ, false, List, [], ◌∷◌, ◌++◌}
use Rattle.paper.specs.Accounts.{account, spell_account}
use Rattle.paper.specs.Numerals.{decimal}
use Rattle.paper.specs.BankField.{spell_bank}
use Rattle.paper.specs.GroupLine.{spell_payer}
use Rattle.rows.specs.declared.read.ItemRow.{ItemRow}

-- "Canonical spelling": the payer if there is one, payee, amount and variable symbol, each with a space behind it, and the bank field
unfoldable pub front : ItemRow → List ℕ
front x =
    spell_payer false (account x.payerprefix x.payerbase)
    ++ ((spell_account (account x.payeeprefix x.payeebase) ++ (32 ∷ []))
    ++ ((decimal x.amount ++ (32 ∷ []))
    ++ ((decimal x.variable ++ (32 ∷ []))
    ++ spell_bank x.bank x.constant x.priority)))
