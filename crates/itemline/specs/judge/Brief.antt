-- What judging keeps of an item's line: the amount, for the group's total, and how many warnings the line gives. Document 01, "Numbers
-- returned" and "Warnings are counted". Assumes nothing.
use Rattle.std.specs.Prelude.{ℕ, ◌+◌, List, [], length}
use Rattle.paper.specs.Accounts.{Account, nobody}
use Rattle.paper.specs.BankField.{Bank}
use Rattle.paper.specs.Batch.{Item}
use Rattle.paper.specs.Texts.{Noted}
use Rattle.paper.specs.Entries.{item, nowhere, Counted, got, said, no, on_item}

-- an item of which only the amount is told
abbrev pub bare_item : ℕ → Item
bare_item amount =
    record {
      payer = nobody;
      payee = nobody;
      bank = 0;
      amount = amount;
      variable = 0;
      specific = 0;
      constant = 0;
      priority = 0;
      parts = [];
      name = [];
    }

-- an item by its amount, with how many warnings its line gives
abbrev pub kept : ℕ → ℕ → Counted
kept amount warnings = said (item (bare_item amount)) warnings nowhere

-- .. made of the warnings of a bank field and of the texts behind it
unfoldable pub kept_texts : ℕ → ℕ → ℕ → Noted → Counted
kept_texts amount warnings specific texts = kept amount (warnings + length texts.warnings)

-- .. made of the bank field and what follows
unfoldable pub kept_bank : ℕ → Bank → ℕ → Noted → Counted
kept_bank amount bank = kept_texts amount bank.warnings

-- .. whatever the variable symbol is
unfoldable pub kept_variable : ℕ → ℕ → Bank → ℕ → Noted → Counted
kept_variable amount variable = kept_bank amount

-- .. and whoever is paid
unfoldable pub kept_payee : Account → ℕ → ℕ → Bank → ℕ → Noted → Counted
kept_payee payee = kept_variable

-- the walk goes on (k) whoever pays
unfoldable pub any_payer : (ℕ → List ℕ → Counted) → Account → ℕ → List ℕ → Counted
any_payer k payer = k

-- what a line says, an item by its amount alone
unfoldable pub brief : Counted → Counted
brief (got t) = said (on_item t.entry (λ x. item (bare_item x.amount)) t.entry t.entry) t.warnings nowhere
brief (no n at) = no n at
