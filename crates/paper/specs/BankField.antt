-- The field of an item that holds payee bank, constant symbol and, on K, priority. Document 01, "Lines", item. Assumes nothing.
use Rattle.std.specs.Prelude.{ℕ, ◌+◌, ◌*◌, ◌/◌, ◌%◌, Bool, true, false, List, eqb, ltb, leb}
use Rattle.base.specs.Pick.{pick}
use Rattle.paper.specs.Read.{Field, value, fault, given}
use Rattle.paper.specs.Numerals.{digits, fixed}

-- what the field says, and how many warnings it gives ("Warnings are counted")
pub record Bank : Type 0 where
  pub bank : ℕ
  pub constant : ℕ
  pub priority : ℕ
  pub warnings : ℕ

-- The ninth digit from the right: on K (`ranked`) it is the priority, 0, 1 and 2 meaning 5, and 1 and 2 with a warning. Elsewhere
-- it is 0 and the priority 5; 13 otherwise.
unfoldable pub ninth : Bool → ℕ → ℕ → ℕ → Field Bank
ninth true d b c =
    value (record { bank = b; constant = c; priority = pick (ltb d 3) 5 d; warnings = pick (ltb d 1) 0 (pick (ltb d 3) 1 0) })
ninth false d b c = pick (eqb d 0) (value (record { bank = b; constant = c; priority = 5; warnings = 0 })) (fault 13)

-- Eight to ten digits that end in four of payee bank and four of constant symbol. First 4, then 12 for the bank 0000, then 13 for a
-- tenth digit that is not 0 and for the ninth.
unfoldable pub read_bank : Bool → List ℕ → Field Bank
read_bank ranked s =
    given (digits 8 10 s) λ n.
    pick (eqb (n / 10000 % 10000) 0) (fault 12)
    (pick (ltb 999999999 n) (fault 13) (ninth ranked (n / 100000000) (n / 10000 % 10000) (n % 10000)))

-- Document 02, W-202: then 11 for a bank that may not be due on the group's day
unfoldable pub read_due_bank : Bool → (ℕ → Bool) → List ℕ → Field Bank
read_due_bank ranked due s = given (read_bank ranked s) λ b. pick (due b.bank) (value b) (fault 11)

-- "The batch": a payee bank is 1 to 9999
unfoldable pub bank_proper : ℕ → Bool
bank_proper b = pick (ltb b 1) false (leb b 9999)

-- "The batch": a priority is 3 to 9
unfoldable pub priority_proper : ℕ → Bool
priority_proper p = pick (ltb p 3) false (leb p 9)

-- K carries every priority, the other sheets 5 alone
unfoldable pub priority_carried : Bool → ℕ → Bool
priority_carried ranked p = pick ranked true (eqb p 5)

-- "Canonical spelling": eight digits, and `0p` in front if the priority p is not 5
unfoldable pub spell_bank : ℕ → ℕ → ℕ → List ℕ
spell_bank bank constant priority =
    pick (eqb priority 5) (fixed 8 (bank * 10000 + constant)) (fixed 10 (priority * 100000000 + (bank * 10000 + constant)))
