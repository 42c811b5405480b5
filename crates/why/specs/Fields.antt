-- The rules of each field, in testing order. Document 01, "Lines" and "Numbers returned", as document 02 has changed them. Assumes nothing.
use Rattle.std.specs.Prelude.{ℕ, ◌-◌, ◌/◌, ◌%◌, Bool, true, false, not, List, [], ◌∷◌, map, eqb, ltb, leb, length, take, drop}
use Rattle.base.specs.Pick.{pick}
use Rattle.base.specs.Seek.{all}
use Rattle.sheet.specs.declared.Sheet.{Sheet}
use Rattle.sheet.specs.Sheets.{any_day, kind_allowed, bank_allowed}
use Rattle.paper.specs.Bytes.{is_text, null}
use Rattle.paper.specs.Days.{real_day, past, day_number, month_ahead}
use Rattle.paper.specs.Terms.{collection, day_here}
use Rattle.paper.specs.Accounts.{rest, non_zero, only_zeros}
use Rattle.paper.specs.FirstLine.{rest_length}
use Rattle.paper.specs.FileLine.{member, series}
use Rattle.paper.specs.Spells.{Numbers, any_number, after, Context}
use Rattle.why.specs.Rule.{Rule, rule, within, spared}
use Rattle.why.specs.Names.{Name, creation_day, firm_name, client_number, interval_start, interval_end, rest_of_line, file_kind, file_number, payer_bank, group_payer, group_total, group_day, item_payer, payee, amount, variable_symbol, bank_field, specific_symbol, message, first_part, second_part, third_part, fourth_part, payee_name, group_closing, file_closing, whole_line}
use Rattle.why.specs.Forms.{are_digits, spelled, are_text, is_day, day_spelled, prefix_bytes, base_bytes, is_account, is_amount, amount_spelled}
use Rattle.why.specs.Texts.{text_rules}

-- `least` to `most` digits: 4 otherwise
abbrev pub digit_rules : ℕ → ℕ → List Rule
digit_rules least most = rule 4 40 (are_digits least most) ∷ []

-- ---- the first line

-- a day that is spelled is real
unfoldable pub is_real : Bool → List ℕ → Bool
is_real long s = real_day (day_spelled long s)

-- a real day, DDMMRR
abbrev pub day_rules : List Rule
day_rules = rule 4 40 (is_day false) ∷ within 11 110 20000101 20991231 (is_real false) ∷ []

-- n text bytes
abbrev pub name_rules : ℕ → List Rule
name_rules n = rule 4 40 (are_text n) ∷ []

-- on K (`ordered`) a number that is not below the interval's start
unfoldable pub is_after : Bool → ℕ → List ℕ → Bool
is_after ordered start s = pick ordered (leb start (spelled s)) true

-- the interval's end
abbrev pub end_rules : Bool → ℕ → List Rule
end_rules ordered start = rule 4 40 (are_digits 3 3) ∷ within 9 90 start 999 (is_after ordered start) ∷ []

-- twelve text bytes, on K (`short`) also six or none
unfoldable pub is_rest : Bool → List ℕ → Bool
is_rest short s = pick (rest_length short (length s)) (all is_text s) false

-- the rest of the line
abbrev pub rest_rules : Bool → List Rule
rest_rules short = rule 4 40 (is_rest short) ∷ []

-- ---- an account file's line

-- a kind that is on the sheet
unfoldable pub is_kind : Sheet → List ℕ → Bool
is_kind sh s = kind_allowed sh (spelled s)

-- KIND
abbrev pub kind_rules : Sheet → List Rule
kind_rules sh = rule 4 40 (are_digits 4 4) ∷ within 7 70 1501 sh.lastkind (is_kind sh) ∷ []

-- on K (`interval`) the first three digits lie in the header's interval
unfoldable pub is_inside : Bool → ℕ → ℕ → List ℕ → Bool
is_inside interval from to s = pick interval (pick (leb from (series (spelled s))) (leb (series (spelled s)) to) false) true

-- .. and no earlier account file has them
unfoldable pub is_unused : Bool → List ℕ → List ℕ → Bool
is_unused interval seen s = pick interval (not (member (series (spelled s)) seen)) true

-- NUMBER
abbrev pub number_rules : Bool → Numbers → List Rule
number_rules interval any_number = rule 4 40 (are_digits 6 6) ∷ []
number_rules interval (after h seen) =
    rule 4 40 (are_digits 6 6)
    ∷ within 9 91 h.from h.to (is_inside interval h.from h.to)
    ∷ within 9 92 h.from h.to (is_unused interval seen)
    ∷ []

-- the sheet's bank
unfoldable pub is_code : Sheet → List ℕ → Bool
is_code sh s = bank_allowed sh (spelled s)

-- BANK
abbrev pub code_rules : Sheet → List Rule
code_rules sh = rule 4 40 (are_digits 4 4) ∷ within 8 80 sh.bank sh.bank (is_code sh) ∷ []

-- ---- accounts

-- nothing is left of its prefix by 11,
unfoldable pub prefix_ok : Bool → List ℕ → Bool
prefix_ok joined s = eqb (rest 10 (spelled (prefix_bytes joined s))) 0

-- nor of its base,
unfoldable pub base_ok : Bool → List ℕ → Bool
base_ok joined s = eqb (rest 10 (spelled (base_bytes joined s))) 0

-- which has two digits or more that are not zero
unfoldable pub base_two : Bool → List ℕ → Bool
base_two joined s = leb 2 (non_zero 10 (spelled (base_bytes joined s)))

-- an account
abbrev pub account_rules : Bool → ℕ → List Rule
account_rules joined least =
    rule 4 40 (is_account joined least) ∷ rule 5 50 (prefix_ok joined) ∷ rule 5 51 (base_ok joined) ∷ rule 5 52 (base_two joined) ∷ []

-- no account: the field is empty (S, E) or has only zeros (K, E), where that makes a group single
unfoldable pub is_none : Bool → Bool → List ℕ → Bool
is_none empty allzero s = pick (pick empty (null s) false) true (pick allzero (only_zeros s) false)

-- a group's payer: an account, or none
abbrev pub payer_rules : Bool → Bool → Bool → ℕ → List Rule
payer_rules empty allzero joined least = map (spared (is_none empty allzero)) (account_rules joined least)

-- ---- amounts and days

-- a group's total: of any size. That it is the sum shows only where the group closes.
abbrev pub total_rules : Bool → List Rule
total_rules may = rule 4 40 (is_amount may 14) ∷ []

-- an amount that is not zero
unfoldable pub is_some : Bool → List ℕ → Bool
is_some may s = leb 1 (amount_spelled may s)

-- .. and not over its limit
unfoldable pub is_low : Bool → ℕ → List ℕ → Bool
is_low may max s = leb (amount_spelled may s) max

-- an item's amount
abbrev pub amount_rules : Bool → ℕ → ℕ → List Rule
amount_rules may most max = rule 4 40 (is_amount may most) ∷ within 6 60 1 max (is_some may) ∷ within 6 61 1 max (is_low may max) ∷ []

-- from which day on: today, or any (0) where past days are taken
abbrev pub first_day : Bool → ℕ → ℕ
first_day early today = pick early 0 today

-- how many days ahead at most, or any (0)
abbrev pub last_day : ℕ → ℕ
last_day ahead = pick (ltb ahead any_day) ahead 0

-- where the day is judged here, it is not past, unless the sheet takes that,
unfoldable pub not_early : Bool → Bool → Bool → ℕ → List ℕ → Bool
not_early long here early today s = pick here (pick (past today (day_spelled long s)) early true) true

-- and not too far ahead
unfoldable pub not_late : Bool → Bool → ℕ → ℕ → List ℕ → Bool
not_late long here ahead today s =
    pick here (pick (past today (day_spelled long s)) true (leb (day_number (day_spelled long s) - day_number today) ahead)) true

-- a due date
abbrev pub due_rules : Bool → Bool → Bool → ℕ → ℕ → List Rule
due_rules long here early ahead today =
    rule 4 40 (is_day long)
    ∷ within 11 110 20000101 20991231 (is_real long)
    ∷ within 11 111 (first_day early today) (last_day ahead) (not_early long here early today)
    ∷ within 11 112 (first_day early today) (last_day ahead) (not_late long here ahead today)
    ∷ []

-- ---- the bank field

-- the payee's bank
abbrev pub bank_of : List ℕ → ℕ
bank_of s = spelled s / 10000 % 10000

-- it is not 0000
unfoldable pub has_bank : List ℕ → Bool
has_bank s = not (eqb (bank_of s) 0)

-- the tenth digit from the right is 0
unfoldable pub tenth_zero : List ℕ → Bool
tenth_zero s = not (ltb 999999999 (spelled s))

-- and so is the ninth, but on K (`ranked`)
unfoldable pub ninth_zero : Bool → List ℕ → Bool
ninth_zero ranked s = pick ranked true (eqb (spelled s / 100000000) 0)

-- W-202, where the group is a collection that is judged here: from the own bank not before today,
unfoldable pub own_term : Bool → ℕ → ℕ → ℕ → List ℕ → Bool
own_term here own today date s = pick here (pick (eqb (bank_of s) own) (not (ltb date today)) true) true

-- from any other after today,
unfoldable pub other_term : Bool → ℕ → ℕ → ℕ → List ℕ → Bool
other_term here own today date s = pick here (pick (eqb (bank_of s) own) true (not (leb date today))) true

-- and from both at most one month ahead
unfoldable pub last_term : Bool → ℕ → ℕ → List ℕ → Bool
last_term here today date s = pick here (leb date (month_ahead today)) true

-- the bank field; `most` of a term counts: 0 or 1 days behind today, and 1 month
abbrev pub bank_rules : Bool → Bool → ℕ → ℕ → ℕ → List Rule
bank_rules ranked here own today date =
    rule 4 40 (are_digits 8 10)
    ∷ within 12 120 1 9999 has_bank
    ∷ rule 13 131 tenth_zero
    ∷ rule 13 130 (ninth_zero ranked)
    ∷ within 11 113 today 0 (own_term here own today date)
    ∷ within 11 113 today 1 (other_term here own today date)
    ∷ within 11 114 today 1 (last_term here today date)
    ∷ []

-- ---- symbols

-- 1 to 10 digits; on S (`none`) also nothing
unfoldable pub is_symbol : Bool → List ℕ → Bool
is_symbol none s = pick (pick none (null s) false) true (are_digits 1 10 s)

-- a symbol
abbrev pub symbol_rules : Bool → List Rule
symbol_rules none = rule 4 40 (is_symbol none) ∷ []

-- ---- by name

-- The rules of a field of the line w, on a sheet, on a day, in its context. The interval's start, which its end is compared with, stands in the
-- first line at bytes 40 to 42. What is no field of its own has none: a text's parts are judged with it, and lines that close by their bytes.
unfoldable pub rules_of : Sheet → ℕ → Context → List ℕ → Name → List Rule
rules_of sh today c w creation_day = day_rules
rules_of sh today c w firm_name = name_rules 20
rules_of sh today c w client_number = digit_rules 10 10
rules_of sh today c w interval_start = digit_rules 3 3
rules_of sh today c w interval_end = end_rules sh.interval (spelled (take 3 (drop 40 w)))
rules_of sh today c w rest_of_line = rest_rules sh.short
rules_of sh today c w file_kind = kind_rules sh
rules_of sh today c w file_number = number_rules sh.interval c.numbers
rules_of sh today c w payer_bank = code_rules sh
rules_of sh today c w group_payer = payer_rules sh.emptypayer sh.zeropayer sh.joined sh.basemin
rules_of sh today c w group_total = total_rules sh.comma
rules_of sh today c w group_day = due_rules sh.longdate (day_here sh c.kind) sh.early sh.ahead today
rules_of sh today c w item_payer = account_rules sh.joined sh.basemin
rules_of sh today c w payee = account_rules sh.joined sh.basemin
rules_of sh today c w amount = amount_rules sh.comma sh.itemdigits sh.itemmax
rules_of sh today c w variable_symbol = digit_rules 1 10
rules_of sh today c w bank_field = bank_rules sh.priority (collection sh c.kind) sh.bank today c.date
rules_of sh today c w specific_symbol = symbol_rules sh.fixedtail
rules_of sh today c w message = text_rules sh.text
rules_of sh today c w first_part = []
rules_of sh today c w second_part = []
rules_of sh today c w third_part = []
rules_of sh today c w fourth_part = []
rules_of sh today c w payee_name = []
rules_of sh today c w group_closing = []
rules_of sh today c w file_closing = []
rules_of sh today c w whole_line = []
