-- The cases that document 01 marks (p) in "Cases at the edges": one table, computed over the definitions. Assumes nothing.
use Prim.Native.Nat.{ℕ}
use Prim.Native.String.{String}
use mathlib.Core.Bool.{true, false}
use mathlib.Core.List.{[], ◌∷◌}
use mathlib.Core.Path.{◌≡◌, refl}
use Rattle.sheet.specs.declared.Sheet.{Sheet}
use Rattle.sheet.specs.Sheets.{sheet_k, sheet_c, sheet_e}
use Rattle.paper.specs.Read.{Field, value, fault}
use Rattle.paper.specs.Bytes.{bytes}
use Rattle.paper.specs.Days.{real_day, read_day, read_due}
use Rattle.paper.specs.Accounts.{Account, account, rest, read_account}
use Rattle.paper.specs.Amounts.{read_item_amount}
use Rattle.paper.specs.BankField.{Bank, read_bank}
use Rattle.paper.specs.Texts.{piece, Noted, read_text}
use Rattle.cases.specs.Asked.{judged}

-- a field on a sheet
abbrev pub account_on : Sheet → String → Field Account
account_on sh s = read_account sh.joined sh.basemin (bytes s)

abbrev pub amount_on : Sheet → String → Field ℕ
amount_on sh s = read_item_amount sh.comma sh.itemdigits sh.itemmax (bytes s)

abbrev pub bank_on : Sheet → String → Field Bank
bank_on sh s = read_bank sh.priority (bytes s)

abbrev pub due_on : Sheet → ℕ → String → Field ℕ
due_on sh today s = read_due sh.longdate true sh.early sh.ahead today (bytes s)

-- no message, and a name at a place of its text
abbrev pub named : ℕ → String → Noted
named at s = record { parts = piece 0 [] ∷ piece 0 [] ∷ piece 0 [] ∷ piece 0 [] ∷ []; name = piece at (bytes s); warnings = [] }

pub table :
    -- these accounts are valid, and 1234567890 is not
    (account_on sheet_c "19-19" ≡ value (account 19 19))
    × (account_on sheet_c "5152046" ≡ value (account 0 5152046))
    × (account_on sheet_c "174-1999738514" ≡ value (account 174 1999738514))
    × (account_on sheet_c "500005-2267100237" ≡ value (account 500005 2267100237))
    × (account_on sheet_c "1234567890" ≡ fault 5)
    -- 0, 00 and 9 are no bases
    × (account_on sheet_c "0" ≡ fault 5)
    × (account_on sheet_c "00" ≡ fault 5)
    × (account_on sheet_c "9" ≡ fault 5)
    -- twelve digits joined are an account on C alone
    × (account_on sheet_c "190000000019" ≡ value (account 19 19))
    × (account_on sheet_k "190000000019" ≡ fault 4)
    -- days that are real, and days that are not
    × (real_day 21000228 ≡ false)
    × (real_day 20240229 ≡ true)
    × (read_day false (bytes "290223") ≡ fault 11)
    -- a comma on E stands before exactly two digits, and behind at least one
    × (amount_on sheet_e "3500,00" ≡ value 350000)
    × (amount_on sheet_e ",50" ≡ fault 4)
    × (amount_on sheet_e "3500,0" ≡ fault 4)
    -- the ninth digit on K
    × (bank_on sheet_k "0781000558" ≡ value (record { bank = 8100; constant = 558; priority = 7; warnings = 0 }))
    × (bank_on sheet_k "0181000558" ≡ value (record { bank = 8100; constant = 558; priority = 5; warnings = 1 }))
    -- K takes the day 364 days ahead of 1 January 2018, and not the next one
    × (due_on sheet_k 20180101 "311218" ≡ value 20181231)
    × (due_on sheet_k 20180101 "010119" ≡ fault 11)
    -- an empty message and the name Jan
    × (read_text sheet_c.text 0 (bytes "AV: NP:Jan") ≡ value (named 7 "Jan"))
unfolding judged
table = (refl, refl, refl, refl, refl, refl, refl, refl, refl, refl, refl, refl, refl, refl, refl, refl, refl, refl, refl, refl, refl)

-- The rule of an account's digits by hand, as docs/RULES.md works it: what is left behind each digit of 705, of 19 and of 1234567890.
pub by_hand :
    (rest 1 7 ≡ 7) × (rest 2 70 ≡ 3) × (rest 3 705 ≡ 0)
    × (rest 1 1 ≡ 1) × (rest 2 19 ≡ 0)
    × (rest 1 1 ≡ 1) × (rest 2 12 ≡ 4) × (rest 3 123 ≡ 0) × (rest 4 1234 ≡ 4) × (rest 5 12345 ≡ 2)
    × (rest 6 123456 ≡ 10) × (rest 7 1234567 ≡ 5) × (rest 8 12345678 ≡ 7) × (rest 9 123456789 ≡ 1) × (rest 10 1234567890 ≡ 2)
unfolding rest
by_hand = (refl, refl, refl, refl, refl, refl, refl, refl, refl, refl, refl, refl, refl, refl, refl)
