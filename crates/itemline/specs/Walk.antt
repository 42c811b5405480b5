-- The walk over an item's line, stage by stage: k is what is made of the values of its fields. Document 01, "Lines", item. Assumes nothing.
use Rattle.std.specs.Prelude.{ℕ, ◌+◌, Bool, true, List, length}
use Rattle.base.specs.Pick.{pick}
use Rattle.sheet.specs.declared.Sheet.{Sheet}
use Rattle.paper.specs.Read.{Field}
use Rattle.paper.specs.Accounts.{Account, nobody, read_account}
use Rattle.paper.specs.Amounts.{read_item_amount}
use Rattle.paper.specs.BankField.{Bank, read_due_bank}
use Rattle.paper.specs.Texts.{Noted}
use Rattle.paper.specs.Entries.{item, Counted, said, field, gap}
use Rattle.paper.specs.ItemLine.{read_symbol, item_of, places}
use Rattle.itemline.specs.tail.Told.{tail_of}

-- a field and the space behind it, before the rest of the walk (k)
unfoldable pub spaced : {A : Type 0} → (List ℕ → Field A) → ℕ → List ℕ → (A → ℕ → List ℕ → Counted) → Counted
spaced read at s k =
    field read at s λ v a1 s1.
    gap a1 s1 λ a2 s2.
    k v a2 s2

-- every payee bank may be due
abbrev pub any_bank : ℕ → Bool
any_bank bank = true

-- bank field, and the tail; `due` says which payee banks may be due
unfoldable pub from_bank : Sheet → (ℕ → Bool) → (Bank → ℕ → Noted → Counted) → ℕ → List ℕ → Counted
from_bank sh due k at s =
    field (read_due_bank sh.priority due) at s λ bank a1 s1.
    tail_of sh.text sh.fixedtail sh.bare (k bank) a1 s1

-- variable symbol, and what follows
unfoldable pub from_variable : Sheet → (ℕ → Bool) → (ℕ → Bank → ℕ → Noted → Counted) → ℕ → List ℕ → Counted
from_variable sh due k at s = spaced read_symbol at s λ variable a1 s1. from_bank sh due (k variable) a1 s1

-- amount, and what follows
unfoldable pub from_amount : Sheet → (ℕ → Bool) → (ℕ → ℕ → Bank → ℕ → Noted → Counted) → ℕ → List ℕ → Counted
from_amount sh due k at s = spaced (read_item_amount sh.comma sh.itemdigits sh.itemmax) at s λ amount a1 s1. from_variable sh due (k amount) a1 s1

-- payee, and what follows
unfoldable pub from_payee : Sheet → (ℕ → Bool) → (Account → ℕ → ℕ → Bank → ℕ → Noted → Counted) → ℕ → List ℕ → Counted
from_payee sh due k at s = spaced (read_account sh.joined sh.basemin) at s λ payee a1 s1. from_amount sh due (k payee) a1 s1

-- the payer, where the group is single, before the rest of the walk (k)
unfoldable pub payer_first : Bool → ℕ → Bool → List ℕ → (Account → ℕ → List ℕ → Counted) → Counted
payer_first joined least single s k = pick single (spaced (read_account joined least) 0 s k) (k nobody 0 s)

-- the whole line
unfoldable pub walk : Sheet → (ℕ → Bool) → Bool → (Account → Account → ℕ → ℕ → Bank → ℕ → Noted → Counted) → List ℕ → Counted
walk sh due single k s = payer_first sh.joined sh.basemin single s λ payer at rest. from_payee sh due (k payer) at rest

-- the item that document 01 makes of the values, with its warnings counted
unfoldable pub item_said : Account → Account → ℕ → ℕ → Bank → ℕ → Noted → Counted
item_said payer payee amount variable bank specific texts =
    said (item (item_of payer payee amount variable specific bank texts)) (bank.warnings + length texts.warnings) (places texts)
