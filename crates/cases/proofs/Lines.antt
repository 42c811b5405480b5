-- Worked examples of docs/DECISIONS.md, points 1 to 6: lines, their ends and their order, computed over the definitions. Assumes nothing.
use Prim.Native.Nat.{ℕ}
use mathlib.Core.List.{[], ◌∷◌}
use mathlib.Core.Path.{◌≡◌, refl}
use lib.ListN.{replicate}
use Rattle.paper.specs.Bytes.{bytes}
use Rattle.paper.specs.Accounts.{account}
use Rattle.paper.specs.Batch.{AccountFile, Group, no_header}
use Rattle.paper.specs.Lines.{line, lines_of}
use Rattle.paper.specs.Judge.{Refused, Accepted, State, at_file, at_item, stop, step}
use Rattle.sheet.specs.Sheets.{sheet_k as K, sheet_s as S, sheet_c as C, sheet_e as E}
use Rattle.cases.specs.Asked.{today, judged}
use Rattle.cases.specs.Frame.{frame, ended_by, first, opening, group, item, closing, ending, behind, plain_item, plain, ◌gives◌at◌, ◌reads◌warned◌}

-- a group with n items
abbrev items : ℕ → Group
items n = record { date = 20180102; payer = account 19 19; items = replicate n plain_item }

-- an account file with such a group
abbrev filled : ℕ → AccountFile
filled n = record { kind = 1501; number = 0; groups = items n ∷ [] }

-- n account files were read, and another one is due
abbrev after_files : ℕ → State
after_files n = at_file (record { header = no_header; files = replicate n (filled 1); warnings = 0 })

-- c items of an earlier account file, g of an earlier group and n of this group were read, and another one is due
abbrev after_items : ℕ → ℕ → ℕ → State
after_items c g n =
    at_item
    (record {
      header = no_header;
      files = filled c ∷ [];
      opening = record { kind = 1501; number = 0 };
      groups = items g ∷ [];
      head = record { payer = account 19 19; date = 20180102; total = 5001; line = 3; byte = 8 };
      items = replicate n plain_item;
      warnings = 0;
    })

-- Point 1: CR LF, LF and CR end a line. LF CR and CR CR LF are two ends, with an empty line between them. The last line may lack its end,
-- and no line follows a CR that is the last byte.
pub ends :
    (lines_of 0 (bytes "a\n\rb\r\r\nc\r") ≡ line 0 (bytes "a") ∷ line 2 [] ∷ line 3 (bytes "b") ∷ line 5 [] ∷ line 7 (bytes "c") ∷ [])
    × (judged C (ended_by "\r\n" (frame C)) ≡ Accepted no_header plain 0)
    × (judged C (ended_by "\r" (frame C)) ≡ Accepted no_header plain 0)
    × (judged C (ended_by "\n\r" (frame C)) ≡ Refused 3 2 5)
    × (judged C (ended_by "\r\r\n" (frame C)) ≡ Refused 3 2 5)
    × (judged C (bytes "UHL1\n1 1501 000000 0300\n2 19-19 5001 020118\n705 5001 42 03000558\n3 +\n5 +") ≡ Accepted no_header plain 0)
    × (judged C (bytes "UHL1\n1 1501 000000 0300\n2 19-19 5001 020118\n705 5001 42 03000558\n3 +\n5 +\r") ≡ Accepted no_header plain 0)
unfolding judged
ends = (refl, refl, refl, refl, refl, refl, refl)

-- Point 2: an empty line is an item's. So one more line end behind the last line is 3; where an item is due, an empty line is 4.
pub empty-lines :
    (behind K "\n" gives 3 at 0)
    × (behind C "\n" gives 3 at 0)
    × (group C "" gives 3 at 0)
    × (item K "" gives 4 at 0)
    × (item S "" gives 4 at 0)
unfolding judged
empty-lines = (refl, refl, refl, refl, refl)

-- Point 3: at an early end the line is one more than there are, and the byte is the file's length, whether the last line has its end or not.
pub early-ends :
    (judged K [] ≡ Refused 3 1 0)
    × (judged C [] ≡ Refused 3 1 0)
    × (judged C (bytes "UHL1") ≡ Refused 3 2 4)
    × (judged C (bytes "UHL1\n") ≡ Refused 3 2 5)
    × (judged C (bytes "UHL1\n1 1501 000000 0300\n") ≡ Refused 3 3 24)
    × (judged C (bytes "UHL1\n1 1501 000000 0300\n2 19-19 5001 020118\n") ≡ Refused 3 4 44)
    × (judged C (bytes "UHL1\n1 1501 000000 0300\n2 19-19 5001 020118\n705 5001 42 03000558\n") ≡ Refused 3 5 65)
    × (judged C (bytes "UHL1\n1 1501 000000 0300\n2 19-19 5001 020118\n705 5001 42 03000558\n3 +") ≡ Refused 3 6 68)
unfolding judged
early-ends = (refl, refl, refl, refl, refl, refl, refl, refl)

-- Point 4: `3+` and `5+` close on every sheet by their start, and K and S refuse the `+`; `3` alone is an item. The first wrong byte is the first
-- behind which no spelling of the sheet is left, or the line's end.
pub closings :
    (closing K "3+" gives 4 at 1)
    × (closing S "3+" gives 4 at 1)
    × (closing C "3+" reads plain warned 0)
    × (closing E "3+" reads plain warned 0)
    × (ending K "5+" gives 4 at 1)
    × (ending C "5+" reads plain warned 0)
    × (closing K "3" gives 4 at 0)
    × (closing C "3" gives 5 at 0)
    × (closing K "5x" gives 4 at 0)
    × (ending K "5" gives 3 at 0)
    × (closing K "3 " gives 4 at 2)
    × (closing C "3 x" gives 4 at 2)
    × (closing K "3+x" gives 4 at 1)
    × (closing C "3+x" gives 4 at 2)
    × (closing K "3 + " gives 4 at 3)
    × (closing E "3+ " gives 4 at 2)
    × (ending S "5 x" gives 4 at 2)
    × (ending E "5 ++" gives 4 at 3)
unfolding judged
closings = (refl, refl, refl, refl, refl, refl, refl, refl, refl, refl, refl, refl, refl, refl, refl, refl, refl, refl)

-- Point 5: behind the first line an account file is due; behind its line a group; behind that an item, and then an item or `3 +`; behind `3 +` a
-- group or `5 +`; behind `5 +` an account file or the end. Any other line is 3 at its start, whatever else is wrong with it.
pub dues :
    (first K "1 1501 000000 8100" gives 3 at 0)
    × (opening C "2 19-19 5001 020118" gives 3 at 0)
    × (group C "705 5001 42 03000558" gives 3 at 0)
    × (group C "5 +" gives 3 at 0)
    × (item C "3 +" gives 3 at 0)
    × (item K "1 x" gives 3 at 0)
    × (closing C "5 +" gives 3 at 0)
    × (closing C "2 19-19 5001 020118" gives 3 at 0)
    × (ending C "705 5001 42 03000558" gives 3 at 0)
    × (ending C "1 1501 000000 0300" gives 3 at 0)
    × (ending K "3 x" gives 3 at 0)
    × (behind K "UHL1" gives 3 at 0)
    × (behind K "2 x" gives 3 at 0)
    × (behind C "705 5001 42 03000558" gives 3 at 0)
unfolding judged
dues = (refl, refl, refl, refl, refl, refl, refl, refl, refl, refl, refl, refl, refl, refl)

-- Point 6: account file 1,001, on K too, although its number is bound to repeat; item 1,001 of S, counted over the whole file; item 100,000 of an
-- account file. 3 comes before 15, and 15 before the line's fields; both are placed at the line's start.
pub too-many :
    (step K today 9 (line 70 (bytes "1 1501 000000 8100")) (after_files 1000) ≡ stop (Refused 15 9 70))
    × (step C today 9 (line 70 (bytes "1 x")) (after_files 1000) ≡ stop (Refused 15 9 70))
    × (step C today 9 (line 70 (bytes "2 x")) (after_files 1000) ≡ stop (Refused 3 9 70))
    × (step C today 9 (line 70 (bytes "1 x")) (after_files 999) ≡ stop (Refused 4 9 72))
    × (step S today 9 (line 70 (bytes "x")) (after_items 500 300 200) ≡ stop (Refused 15 9 70))
    × (step S today 9 (line 70 (bytes "x")) (after_items 500 300 199) ≡ stop (Refused 4 9 70))
    × (step S today 9 (line 70 (bytes "1 x")) (after_items 500 300 200) ≡ stop (Refused 3 9 70))
    × (step S today 9 (line 70 (bytes "3 x")) (after_items 500 300 200) ≡ stop (Refused 4 9 72))
    × (step C today 9 (line 70 (bytes "x")) (after_items 500 300 200) ≡ stop (Refused 4 9 70))
    × (step E today 9 (line 70 (bytes "x")) (after_items 0 99000 999) ≡ stop (Refused 15 9 70))
    × (step E today 9 (line 70 (bytes "x")) (after_items 1 99000 998) ≡ stop (Refused 4 9 70))
unfolding judged
too-many = (refl, refl, refl, refl, refl, refl, refl, refl, refl, refl, refl)
