-- Worked examples of docs/DECISIONS.md, points 7 to 19: the lines that begin a file, an account file and a group, computed over the definitions.
-- Assumes nothing.
use mathlib.Core.List.{[], ◌∷◌}
use mathlib.Core.Path.{◌≡◌, refl}
use Rattle.paper.specs.Accounts.{account}
use Rattle.paper.specs.Judge.{Refused}
use Rattle.sheet.specs.Sheets.{sheet_k as K, sheet_s as S, sheet_c as C, sheet_e as E}
use Rattle.cases.specs.Asked.{judged}
use Rattle.cases.specs.Frame.{first, opening, group, behind, single, without, headed, batch, plain_item, plain, filed, due_on, alone, ◌gives◌at◌, ◌reads◌warned◌, ◌heads◌}

-- Point 7: the first line goes by places. One that ends before or inside a field is 4 at that field; the length is judged when the rest is
-- reached, so a wrong day and K's 9 come before it.
pub first_ends :
    (first K "UHL1" gives 4 at 4)
    × (first E "UHL101011" gives 4 at 4)
    × (first K "UHL1010118RYBNIKY" gives 4 at 10)
    × (first S "UHL1010118RYBNIKY             123456789" gives 4 at 30)
    × (first E "UHL1010118RYBNIKY             123456789000" gives 4 at 40)
    × (first K "UHL1010118RYBNIKY             123456789000090" gives 4 at 43)
    × (first K "UHL1010118RYBNIKY             1234567890000900" reads plain warned 0)
    × (first K "UHL1010118RYBNIKY             1234567890000900000000" reads plain warned 0)
    × (first K "UHL1010118RYBNIKY             12345678900009000000000" gives 4 at 46)
    × (first K "UHL1010118RYBNIKY             12345678900009000000000000000" gives 4 at 46)
    × (first S "UHL1010118RYBNIKY             1234567890000900" gives 4 at 46)
    × (first E "UHL1010118RYBNIKY             1234567890000900000000" gives 4 at 46)
    × (first K "UHL1310218" gives 11 at 4)
    × (first K "UHL1010118RYBNIKY             12345678909010000" gives 9 at 43)
unfolding judged
first_ends = (refl, refl, refl, refl, refl, refl, refl, refl, refl, refl, refl, refl, refl, refl)

-- Point 8: a byte that is no text byte is 4 at the name, or at the rest, which says nothing.
pub first-bytes :
    (first K "UHL1010118RYBNIK\u{1}             1234567890000900000000000000" gives 4 at 10)
    × (first S "UHL1010118RYBNIK\u{7f}             1234567890000900000000000000" gives 4 at 10)
    × (first E "UHL1010118RYBNIKY             123456789000090000000000000\t" gives 4 at 46)
    × (first K "UHL1010118RYBNIKY             123456789000090000000\u{1f}" gives 4 at 46)
    × (first S "UHL1010118RYBNIKY             1234567890000900 XYZ abc |~ý" reads plain warned 0)
unfolding judged
first-bytes = (refl, refl, refl, refl, refl)

-- Point 9: the creation day is any real day of 2000 to 2099, whatever today is. Client number and interval are digits on K, S and E. Only K minds
-- an interval that starts above its end.
pub first-fields :
    (first E "UHL1311299RYBNIKY             1234567890000900000000000000" heads headed 20991231 "RYBNIKY             " 1234567890 0 900)
    × (first K "UHL1290223RYBNIKY             1234567890000900000000000000" gives 11 at 4)
    × (first S "UHL1000118RYBNIKY             1234567890000900000000000000" gives 11 at 4)
    × (first K "UHL101011xRYBNIKY             1234567890000900000000000000" gives 4 at 4)
    × (first K "UHL1010118RYBNIKY             123456789x000900000000000000" gives 4 at 30)
    × (first S "UHL1010118RYBNIKY             1234567890 00900000000000000" gives 4 at 40)
    × (first E "UHL1010118RYBNIKY             123456789000090-000000000000" gives 4 at 43)
    × (first K "UHL1010118RYBNIKY             1234567890901900000000000000" gives 9 at 43)
    × (first K "UHL1010118RYBNIKY             1234567890000000000000000000" heads headed 20180101 "RYBNIKY             " 1234567890 0 0)
    × (first S "UHL1010118RYBNIKY             1234567890901900000000000000" heads headed 20180101 "RYBNIKY             " 1234567890 901 900)
unfolding judged
first-fields = (refl, refl, refl, refl, refl, refl, refl, refl, refl, refl)

-- Point 10: on C anything follows `UHL1`, control bytes too.
pub first-of-c :
    (first C "UHL1\u{1}\u{7f} x" reads plain warned 0)
    × (first C "UHL1310218" reads plain warned 0)
    × (first C "UHL" gives 3 at 0)
unfolding judged
first-of-c = (refl, refl, refl)

-- Points 11 to 13, an account file's line: a field's own faults come before the divider behind it; a divider too many is 4 at itself, a missing one 4
-- at the line's end. KIND and BANK are four digits, then come 7 and 8; C takes any four as BANK.
pub openings :
    (opening K "1 1505" gives 7 at 2)
    × (opening S "1 1505" gives 7 at 2)
    × (opening C "1 1505" gives 7 at 2)
    × (opening E "1 1505" gives 7 at 2)
    × (opening K "1 1502 000000 8100" gives 7 at 2)
    × (opening S "1 1502 000000 0800" reads filed 1502 0 warned 0)
    × (opening S "1 1503 000000 0800" gives 7 at 2)
    × (opening C "1 1504 000000 0300" reads filed 1504 0 warned 0)
    × (opening C "1 1500 000000 0300" gives 7 at 2)
    × (opening C "1 01501 000000 0300" gives 4 at 2)
    × (opening E "1  1501 000000 6100" gives 4 at 2)
    × (opening K "1 1501 00000 8100" gives 4 at 7)
    × (opening C "1 1501 0000000 0300" gives 4 at 7)
    × (opening K "1 1501  000000 8100" gives 4 at 7)
    × (opening C "1 1501" gives 4 at 6)
    × (opening C "1 1501 000000" gives 4 at 13)
    × (opening K "1 1501 000000 0300" gives 8 at 14)
    × (opening S "1 1501 000000 8100" gives 8 at 14)
    × (opening E "1 1501 000000 0800" gives 8 at 14)
    × (opening C "1 1501 000000 9999" reads plain warned 0)
    × (opening C "1 1501 000000 030" gives 4 at 14)
    × (opening K "1 1501 000000 08100" gives 4 at 14)
    × (opening K "1 1501 000000 8100 " gives 4 at 18)
    × (opening C "1 1501 000000 0300 x" gives 4 at 18)
    -- K: the first three digits of the number lie in the interval 000 to 900, and come once
    × (opening K "1 1501 901000 8100" gives 9 at 7)
    × (judged K (first K "UHL1010118RYBNIKY             1234567890001900000000000000").file ≡ Refused 9 2 66)
    × (opening K "1 1501 900999 8100" reads filed 1501 900999 warned 0)
    × (behind K "1 1501 000999 8100" gives 9 at 7)
    × (behind K "1 1501 001000 8000" gives 8 at 14)
unfolding judged
openings = (refl, refl, refl, refl, refl, refl, refl, refl, refl, refl, refl, refl, refl, refl, refl, refl, refl, refl, refl, refl, refl, refl, refl, refl, refl, refl, refl, refl, refl)

-- Points 14 and 15, the payer of a group: on K and C all spaces of the line say whether its field is there, and on S and E it always is. Only zeros
-- are no payer on K and E, and an account on S and C.
pub payers :
    (single K "2 5001 020118" reads alone warned 0)
    × (single C "2 5001 020118" reads alone warned 0)
    × (single S "2  5001 020118" reads alone warned 0)
    × (single E "2  5001 020118" reads alone warned 0)
    × (group K "2 5001 020118 " gives 5 at 2)
    × (group C "2 5001 020118 " gives 5 at 2)
    × (group S "2 5001 020118" gives 5 at 2)
    × (group C "2  5001 020118" gives 4 at 2)
    × (group S "2 705 020118" gives 4 at 12)
    × (single K "2 0 5001 020118" reads alone warned 0)
    × (single E "2 0 5001 020118" reads alone warned 0)
    × (single K "2 0-0 5001 020118" reads alone warned 0)
    × (single E "2 000000-0000000000 5001 020118" reads alone warned 0)
    × (single K "2 00000000000000000 5001 020118" reads alone warned 0)
    × (single K "2 000000000000000000 5001 020118" gives 4 at 2)
    × (single E "2 0000000-0 5001 020118" gives 4 at 2)
    × (single K "2 0-00000000000 5001 020118" gives 4 at 2)
    × (group S "2 0 5001 020118" gives 5 at 2)
    × (group C "2 0 5001 020118" gives 5 at 2)
    × (group S "2 00000000000 5001 020118" gives 4 at 2)
    × (group C "2 00000000000 5001 020118" gives 5 at 2)
    × (group C "2 00000000000000000 5001 020118" gives 4 at 2)
    × (group K "2 9 5001 020118" gives 4 at 2)
    × (group K "2 09 5001 020118" gives 5 at 2)
unfolding judged
payers = (refl, refl, refl, refl, refl, refl, refl, refl, refl, refl, refl, refl, refl, refl, refl, refl, refl, refl, refl, refl, refl, refl, refl, refl)

-- Points 17 and 18: TOTAL has up to 14 digits on every sheet, on E with a comma too. Zero or a large one is no fault of its own, but differs from the
-- sum: K and S refuse that when the closing line has passed, before what follows it; C and E warn. A sum past 14 digits is 10 on every sheet.
pub totals :
    (group E "2 19-19 50,01 020118" reads plain warned 0)
    × (group K "2 19-19 50,01 020118" gives 4 at 8)
    × (group C "2 19-19 000000000005001 020118" gives 4 at 8)
    × (group K "2 19-19 5002 020118" gives 10 at 8)
    × (single S "2  5002 020118" gives 10 at 3)
    × (single K "2 5002 020118" gives 10 at 2)
    × (group C "2 19-19 5002 020118" reads plain warned 1)
    × (group E "2 19-19 5002 020118" reads plain warned 1)
    × (group K "2 19-19 0 020118" gives 10 at 8)
    × (group C "2 19-19 0 020118" reads plain warned 1)
    × (group S "2 19-19 99999999999999 020118" gives 10 at 8)
    × (group E "2 19-19 99999999999999 020118" reads plain warned 1)
    -- the file ends behind `3 +`, or goes on with an item; or the closing line itself is wrong, or is missing
    × (without 4 (group K "2 19-19 5002 020118") gives 10 at 8)
    × (group K "2 19-19 5002 020118\n705 5001 42 03000558\n3 +\n705" gives 10 at 8)
    × (judged K (group K "2 19-19 5002 020118\n705 5001 42 03000558\n3 x").file ≡ Refused 4 5 121)
    × (judged K (without 8 (group K "2 19-19 5002 020118")).file ≡ Refused 3 5 119)
    -- two items that sum up to 100,000,000,000,000
    × (group C "2 19-19 1 020118\n705 99999999999999 42 03000558\n705 1 42 03000558\n3 +" gives 10 at 8)
    × (group K "2 19-19 1 020118\n705 99999999999999 42 03000558\n705 1 42 03000558\n3 +" gives 10 at 8)
unfolding judged
totals = (refl, refl, refl, refl, refl, refl, refl, refl, refl, refl, refl, refl, refl, refl, refl, refl, refl, refl)

-- Point 19 and the sheets' days: on C eight digits are RRRRMMDD; seven are 4 everywhere. Only C warns of a past day, once a group; today is not past.
pub days :
    (group C "2 19-19 5001 20180102" reads plain warned 0)
    × (group K "2 19-19 5001 20180102" gives 4 at 13)
    × (group C "2 19-19 5001 2018010" gives 4 at 13)
    × (group C "2 19-19 5001 19991231" gives 11 at 13)
    × (group C "2 19-19 5001 21000101" gives 11 at 13)
    × (group E "2 19-19 5001 310418" gives 11 at 13)
    × (group E "2 19-19 5001 011318" gives 11 at 13)
    × (group E "2 19-19 5001 290200" reads due_on 20000229 warned 0)
    × (group K "2 19-19 5001 010118" reads due_on 20180101 warned 0)
    × (group C "2 19-19 5001 010118" reads due_on 20180101 warned 0)
    × (group K "2 19-19 5001 311217" gives 11 at 13)
    × (group S "2 19-19 5001 311217" gives 11 at 13)
    × (group C "2 19-19 5001 311217" reads due_on 20171231 warned 1)
    × (group E "2 19-19 5001 311217" reads due_on 20171231 warned 0)
    × (group C "2 19-19 10002 311217\n705 5001 42 03000558" reads batch 1501 0 20171231 (account 19 19) (plain_item ∷ plain_item ∷ []) warned 1)
    × (group C "2 19-19 5001 010119" reads due_on 20190101 warned 0)
    × (group C "2 19-19 5001 020119" gives 11 at 13)
    × (group S "2 19-19 5001 311299" reads due_on 20991231 warned 0)
    × (group E "2 19-19 5001 010100" reads due_on 20000101 warned 0)
    -- the divider behind the day: one too many, one too few
    × (group K "2 19-19 5001 020118 " gives 4 at 19)
    × (group E "2 19-19 5001" gives 4 at 12)
unfolding judged
days = (refl, refl, refl, refl, refl, refl, refl, refl, refl, refl, refl, refl, refl, refl, refl, refl, refl, refl, refl, refl, refl)
