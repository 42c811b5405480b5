-- Worked examples of document 02, W-202: the due days of collections, kind 1502 on C and on P, computed over the definitions. Assumes nothing.
use Prim.Native.Nat.{ℕ, ◌+◌}
use mathlib.Core.List.{List, [], ◌∷◌, ◌++◌}
use mathlib.Core.Path.{◌≡◌, refl}
use lib.ListN.{drop, set}
use Rattle.sheet.specs.declared.Sheet.{Sheet}
use Rattle.sheet.specs.Sheets.{sheet_s as S, sheet_c as C, sheet_e as E, sheet_p as P}
use Rattle.paper.specs.Bytes.{bytes}
use Rattle.paper.specs.Numerals.{fixed}
use Rattle.paper.specs.Days.{spell_day, month_ahead}
use Rattle.paper.specs.Accounts.{account, nobody}
use Rattle.paper.specs.Batch.{Item, Batch, Thing, an_item, no_header}
use Rattle.paper.specs.Proper.{wrong}
use Rattle.paper.specs.Entries.{group, total_at, said, no}
use Rattle.paper.specs.Spells.{for_group, read_line}
use Rattle.paper.specs.Judge.{Refused, Accepted, judge}
use Rattle.paper.specs.Carried.{Place, rows_carried}
use Rattle.paper.specs.Writing.{drafted, refusal, draft_of}
use Rattle.paper.specs.Rewriting.{rewriting}
use Rattle.cases.specs.Asked.{today, judged, written, rewrites}
use Rattle.cases.specs.Frame.{no_tail, frame, ended_by, start_of, Case, header, paid, parts, batch, rows, ◌gives◌at◌, ◌reads◌warned◌}

-- ---- the frame of a collection

-- the frame's lines in an account file of this kind, its group due on this day, its item with this bank field
abbrev lines : Sheet → ℕ → ℕ → List ℕ → List (List ℕ)
lines sh kind date field =
    set
    (set (set (frame sh) 1 (bytes "1 " ++ (fixed 4 kind ++ (bytes " 000000 " ++ fixed 4 sh.bank)))) 2 (bytes "2 19-19 5001 " ++ spell_day date))
    3
    (bytes "705 5001 42 " ++ (field ++ no_tail sh))

-- .. as a file, of which the item's line is spoken
abbrev due : Sheet → ℕ → ℕ → List ℕ → Case
due sh kind date field =
    record { sheet = sh; file = ended_by "\n" (lines sh kind date field); line = 4; start = start_of 3 (lines sh kind date field) }

-- a bank field: this payee bank, and the frame's constant symbol
abbrev from : ℕ → List ℕ
from bank = fixed 4 bank ++ bytes "0558"

-- the frame's item from this payee bank
abbrev item_from : ℕ → Item
item_from bank = paid nobody bank 5001 0 5 (parts 4 []) []

-- the batch of such a file
abbrev dues : ℕ → ℕ → ℕ → Batch
dues kind date bank = batch kind 0 date (account 19 19) (item_from bank ∷ [])

-- Judged on the day `now`, a collection due on the day `date` from that payee bank is accepted on C and on P, with no warning.
abbrev Takes : ℕ → ℕ → ℕ → Type 0
Takes now date bank =
    (judge C now (due C 1502 date (from bank)).file ≡ Accepted no_header (dues 1502 date bank) 0)
    × (judge P now (due P 1502 date (from bank)).file ≡ Accepted (header P) (dues 1502 date bank) 0)

-- .. is refused on both with 11, in line 4 at the bank field
abbrev Refuses : ℕ → ℕ → ℕ → Type 0
Refuses now date bank =
    (judge C now (due C 1502 date (from bank)).file ≡ Refused 11 4 ((due C 1502 date (from bank)).start + 12))
    × (judge P now (due P 1502 date (from bank)).file ≡ Refused 11 4 ((due P 1502 date (from bank)).start + 12))

-- ---- the days

-- From today on from 0300, from tomorrow on from any other bank, up to the same day of the next month.
pub first-and-last :
    Takes 20180101 20180101 300
    × Refuses 20180101 20180101 800
    × Takes 20180101 20180102 300
    × Takes 20180101 20180102 800
    × Takes 20180101 20180201 300
    × Takes 20180101 20180201 800
    × Refuses 20180101 20180202 300
    × Refuses 20180101 20180202 800
    × Refuses 20180101 20171231 300
    × Refuses 20180101 20171231 800
unfolding judged spell_day
first-and-last =
    ((refl, refl), (refl, refl), (refl, refl), (refl, refl), (refl, refl), (refl, refl), (refl, refl), (refl, refl), (refl, refl), (refl, refl))

-- That month's last day where it is shorter, 29 February in a leap year; not its last day where it is longer. December's next month is January of
-- the next year. In December 2099 no real day is too far ahead.
pub month-ends :
    Takes 20180131 20180228 300
    × Takes 20180131 20180228 800
    × Refuses 20180131 20180301 300
    × Refuses 20180131 20180301 800
    × Takes 20240131 20240229 300
    × Takes 20240131 20240229 800
    × Refuses 20240131 20240301 800
    × Takes 20180228 20180328 300
    × Takes 20180228 20180328 800
    × Refuses 20180228 20180329 300
    × Refuses 20180228 20180329 800
    × Refuses 20180228 20180331 300
    × Refuses 20180228 20180331 800
    × Takes 20181231 20190131 300
    × Takes 20181231 20190131 800
    × Refuses 20181231 20190201 300
    × Refuses 20181231 20190201 800
    × Takes 20991231 20991231 300
    × Refuses 20991231 20991231 800
unfolding judged spell_day
month-ends =
    ((refl, refl), (refl, refl), (refl, refl), (refl, refl), (refl, refl), (refl, refl), (refl, refl), (refl, refl), (refl, refl), (refl, refl), (refl, refl), (refl, refl), (refl, refl), (refl, refl), (refl, refl), (refl, refl), (refl, refl), (refl, refl), (refl, refl))

-- One month ahead as a day. That a shorter month's last day is meant no file tells, since no real day lies between that and the next month.
pub months :
    (month_ahead 20180131 ≡ 20180228)
    × (month_ahead 20240131 ≡ 20240229)
    × (month_ahead 20180228 ≡ 20180328)
    × (month_ahead 20180331 ≡ 20180430)
    × (month_ahead 20181231 ≡ 20190131)
unfolding judged
months = (refl, refl, refl, refl, refl)

-- In the bank field 11 comes behind 4, 12 and 13, and before all that follows it; at the group's own field every real day passes.
pub in_line :
    (due C 1502 20190102 (bytes "0300055x") gives 4 at 12)
    × (due C 1502 20190102 (bytes "00000558") gives 12 at 12)
    × (due P 1502 20190102 (bytes "00000558") gives 12 at 12)
    × (due C 1502 20190102 (bytes "103000558") gives 13 at 12)
    × (due P 1502 20190102 (bytes "1103000558") gives 13 at 12)
    × (due C 1502 20190102 (bytes "03000558 ") gives 11 at 12)
    × (due P 1502 20190102 (bytes "03000558 ") gives 11 at 12)
    × (due P 1502 20190102 (bytes "03000558 17 AV:#") gives 11 at 12)
    × (due C 1502 20180101 (bytes "0003000558") reads dues 1502 20180101 300 warned 0)
    × (due C 1502 20180101 (bytes "0008000558") gives 11 at 12)
    -- the payee, the amount and the variable symbol stand before it
    × (judged C (ended_by "\n" (set (lines C 1502 20190102 (from 300)) 3 (bytes "705 0 42 03000558"))) ≡ Refused 6 4 48)
    -- a day that is not real
    × (judged C (due C 1502 20180229 (from 300)).file ≡ Refused 11 3 37)
    × (judged P (due P 1502 20180229 (from 300)).file ≡ Refused 11 3 91)
    × (read_line C today (for_group 1502) (bytes "2 19-19 5001 290218") ≡ no 11 13)
    -- a past day gives no warning, nor does a far one a refusal
    × (read_line C today (for_group 1502) (bytes "2 19-19 5001 311217") ≡ said (group (account 19 19) 5001 20171231) 0 (total_at 8))
    × (read_line P today (for_group 1502) (bytes "2 19-19 5001 20991231") ≡ said (group (account 19 19) 5001 20991231) 0 (total_at 8))
    × (read_line C today (for_group 1501) (bytes "2 19-19 5001 311217") ≡ said (group (account 19 19) 5001 20171231) 1 (total_at 8))
unfolding judged spell_day
in_line = (refl, refl, refl, refl, refl, refl, refl, refl, refl, refl, refl, refl, refl, refl, refl, refl, refl)

-- The day is judged for each item, at its own line, in a single group too; where no item follows there is nothing to judge, and 3 is told. A total that
-- differs is told behind it, when the group is closed.
pub each_item :
    (judged C (bytes "UHL1\n1 1502 000000 0300\n2 19-19 10002 010118\n705 5001 42 03000558\n705 5001 42 08000558\n3 +\n5 +\n") ≡ Refused 11 5 78)
    × (judged C (bytes "UHL1\n1 1502 000000 0300\n2 19-19 10002 010118\n705 5001 42 08000558\n705 5001 42 03000558\n3 +\n5 +\n") ≡ Refused 11 4 57)
    × (judged C (bytes "UHL1\n1 1502 000000 0300\n2 5001 010118\n19-19 705 5001 42 08000558\n3 +\n5 +\n") ≡ Refused 11 4 56)
    × (judged C (bytes "UHL1\n1 1502 000000 0300\n2 19-19 5001 020119\n3 +\n5 +\n") ≡ Refused 3 4 44)
    × (judged C (bytes "UHL1\n1 1502 000000 0300\n2 19-19 5001 020119\n") ≡ Refused 3 4 44)
    × (judged P (ended_by "\n" (set (lines P 1502 20190102 (from 300)) 3 (bytes "3 +"))) ≡ Refused 3 4 98)
    × (judged P (ended_by "\n" (set (lines P 1502 20190102 (from 300)) 2 (bytes "2 19-19 5002 020119"))) ≡ Refused 11 4 110)
    -- two groups: the first one's day is not the second one's
    × (judged C (bytes "UHL1\n1 1502 000000 0300\n2 19-19 5001 020118\n705 5001 42 08000558\n3 +\n2 19-19 5001 010118\n705 5001 42 08000558\n3 +\n5 +\n") ≡ Refused 11 7 101)
unfolding judged spell_day
each_item = (refl, refl, refl, refl, refl, refl, refl, refl)

-- Other kinds and other sheets keep their days: S and E take what they took, 1503 on C has its past days with the warning, and so has an account
-- file of payments behind one of collections. A collection behind payments has its own.
pub others :
    (due S 1502 20180101 (from 800) reads dues 1502 20180101 800 warned 0)
    × (due S 1502 20991231 (from 300) reads dues 1502 20991231 300 warned 0)
    × (judged S (due S 1502 20171231 (from 300)).file ≡ Refused 11 3 91)
    × (due C 1503 20171231 (from 800) reads dues 1503 20171231 800 warned 1)
    × (due C 1504 20190101 (from 800) reads dues 1504 20190101 800 warned 0)
    × (judged C (due C 1503 20190102 (from 800)).file ≡ Refused 11 3 37)
    × (due P 1501 20171231 (from 800) reads dues 1501 20171231 800 warned 1)
    × (due E 1501 20171231 (from 800) reads dues 1501 20171231 800 warned 0)
    × (judged C (ended_by "\n" (lines C 1502 20180101 (from 300) ++ drop 1 (lines C 1501 20171231 (from 800)))) ≡ Accepted no_header (dues 1502 20180101 300 ++ dues 1501 20171231 800) 1)
    × (judged P (ended_by "\n" (lines P 1502 20180101 (from 300) ++ drop 1 (lines P 1501 20190102 (from 800)))) ≡ Refused 11 8 159)
    × (judged P (ended_by "\n" (lines P 1501 20171231 (from 300) ++ drop 1 (lines P 1502 20180101 (from 800)))) ≡ Refused 11 9 178)
unfolding judged spell_day
others = (refl, refl, refl, refl, refl, refl, refl, refl, refl, refl, refl)

-- ---- writing

-- the frame's rows in kind 1502, due on this day, with this item
abbrev collects : ℕ → Item → List Thing
collects date x = rows 1502 0 date (account 19 19) x

-- a collection's place: the rows before this one, due today
abbrev place : Place
place = record { items = 0; seen = []; kind = 1502; date = today }

-- 21 at the item's row, with its payee bank as the field, and none at the group's. All of 20 comes before; 21 at the bank comes before that at the
-- amount and at the priority.
pub carried :
    (written C no_header (collects 20180101 (item_from 800)) ≡ refusal 21 3 5)
    × (written P (header P) (collects 20180101 (item_from 800)) ≡ refusal 21 3 5)
    × (written C no_header (collects 20180202 (item_from 300)) ≡ refusal 21 3 5)
    × (written P (header P) (collects 20171231 (item_from 300)) ≡ refusal 21 3 5)
    × (written C no_header (collects 20190102 (item_from 300)) ≡ refusal 21 3 5)
    × (written C no_header (collects 20180101 (item_from 300) ++ (an_item (item_from 800) ∷ [])) ≡ refusal 21 4 5)
    × (written C no_header (collects 20180229 (item_from 800)) ≡ refusal 20 2 1)
    × (written C no_header (collects 20180101 (item_from 0)) ≡ refusal 20 3 5)
    × (written C no_header (collects 20180101 (paid nobody 800 0 0 5 (parts 4 []) [])) ≡ refusal 20 3 6)
    × (written C no_header (collects 20180101 (paid nobody 800 5001 0 7 (parts 4 []) [])) ≡ refusal 21 3 5)
    × (written C no_header (collects 20180101 (paid nobody 300 5001 0 7 (parts 4 []) [])) ≡ refusal 21 3 10)
    × (rows_carried C today no_header 3 place (an_item (paid nobody 800 0 0 7 (parts 4 []) []) ∷ []) ≡ wrong 3 5)
    × (rows_carried C today no_header 3 place (an_item (paid nobody 300 0 0 7 (parts 4 []) []) ∷ []) ≡ wrong 3 6)
    -- account files of payments before and behind keep the group's day
    × (written C no_header (collects 20180101 (item_from 300) ++ rows 1501 0 20190102 (account 19 19) (item_from 800)) ≡ refusal 21 5 1)
    × (written C no_header (rows 1501 0 20171231 (account 19 19) (item_from 800) ++ collects 20171231 (item_from 800)) ≡ refusal 21 6 5)
    × (written C no_header (rows 1503 0 20190102 (account 19 19) (item_from 800)) ≡ refusal 21 2 1)
    × (written S (header S) (collects 20171231 (item_from 800)) ≡ refusal 21 2 1)
unfolding written
carried = (refl, refl, refl, refl, refl, refl, refl, refl, refl, refl, refl, refl, refl, refl, refl, refl, refl)

-- What is carried is written as before, and is rewritten as it stands.
pub spellings :
    (written C no_header (collects 20180101 (item_from 300)) ≡ drafted (bytes "UHL1\r\n1 1502 000000 0300\r\n2 19-19 5001 010118\r\n705 5001 42 03000558\r\n3 +\r\n5 +\r\n"))
    × (written C no_header (collects 20180201 (item_from 800)) ≡ drafted (bytes "UHL1\r\n1 1502 000000 0300\r\n2 19-19 5001 010218\r\n705 5001 42 08000558\r\n3 +\r\n5 +\r\n"))
    × (written P (header P) (collects 20180102 (item_from 800)) ≡ drafted (bytes "UHL1010118RYBNIKY             1234567890000900000000000000\r\n1 1502 000000 0300\r\n2 19-19 5001 020118\r\n705 5001 42 08000558\r\n3 +\r\n5 +\r\n"))
    × (written S (header S) (collects 20180101 (item_from 800)) ≡ drafted (bytes "UHL1010118RYBNIKY             1234567890000900000000000000\r\n1 1502 000000 0800\r\n2 19-19 5001 010118\r\n705 5001 42 08000558  \r\n3 +\r\n5 +\r\n"))
    × (draft_of C 20180131 no_header (collects 20180228 (item_from 800)) ≡ drafted (bytes "UHL1\r\n1 1502 000000 0300\r\n2 19-19 5001 280218\r\n705 5001 42 08000558\r\n3 +\r\n5 +\r\n"))
    × (draft_of C 20180131 no_header (collects 20180301 (item_from 800)) ≡ refusal 21 3 5)
    × (rewriting (bytes "C 010118\nUHL1\n1 1502 000000 0300\n2 19-19 5001 20180101\n705 5001 42 03000558\n3+\n5+\n") ≡ bytes "UHL1\r\n1 1502 000000 0300\r\n2 19-19 5001 010118\r\n705 5001 42 03000558\r\n3 +\r\n5 +\r\n")
    × (rewriting (bytes "C 010118\nUHL1\n1 1502 000000 0300\n2 19-19 5001 20180101\n705 5001 42 08000558\n3+\n5+\n") ≡ bytes "refused 11 line 4 byte 58\n")
unfolding rewrites
spellings = (refl, refl, refl, refl, refl, refl, refl, refl)
