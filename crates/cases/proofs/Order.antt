-- The order in which a line is tested, docs/DECISIONS.md and "Numbers returned": lines with two faults, computed over the definitions.
-- Assumes nothing.
use mathlib.Core.Path.{refl}
use Rattle.sheet.specs.Sheets.{sheet_k as K, sheet_s as S, sheet_c as C, sheet_e as E}
use Rattle.cases.specs.Asked.{judged}
use Rattle.cases.specs.Frame.{first, opening, group, item, closing, ending, payment, ◌gives◌at◌}

-- "Each line from its left": of two faults in a first line the left one is told. "In one field first 4 and then upward": of two in a field the lower.
pub in-first-lines :
    (first K "UHL1310218RYBNIK\u{1}             1234567890000900000000000000" gives 11 at 4)
    × (first S "UHL1010118RYBNIK\u{1}             x234567890000900000000000000" gives 4 at 10)
    × (first E "UHL1010118RYBNIKY             x234567890x00900000000000000" gives 4 at 30)
    × (first K "UHL1010118RYBNIKY             1234567890x00x00000000000000" gives 4 at 40)
    × (first S "UHL1010118RYBNIKY             1234567890000x0000000000000\u{1}" gives 4 at 43)
    × (first K "UHL1010118RYBNIKY             123456789090190000000000000\u{1}" gives 9 at 43)
    -- a day that is not real and has a letter; an end below its start and with a letter
    × (first K "UHL1x10218RYBNIKY             1234567890000900000000000000" gives 4 at 4)
    × (first K "UHL1010118RYBNIKY             12345678909019x0000000000000" gives 4 at 43)
unfolding judged
in-first-lines = (refl, refl, refl, refl, refl, refl, refl, refl)

-- .. in an account file's line: KIND (4, 7), NUMBER (4, 9), BANK (4, 8), the line's end
pub in-openings :
    (opening K "1 1505 x 8100" gives 7 at 2)
    × (opening K "1 1505 901000 0300" gives 7 at 2)
    × (opening K "1 1501 901000 0300" gives 9 at 7)
    × (opening K "1 1501 901000 x" gives 9 at 7)
    × (opening K "1 1501 x 0300" gives 4 at 7)
    × (opening S "1 1501 000000 0300 " gives 8 at 14)
    -- a kind not on the sheet, a number outside the interval and another bank, each with a letter or a digit too many
    × (opening E "1 15050 000000 6100" gives 4 at 2)
    × (opening K "1 1501 90100x 8100" gives 4 at 7)
    × (opening K "1 1501 000000 030x" gives 4 at 14)
unfolding judged
in-openings = (refl, refl, refl, refl, refl, refl, refl, refl, refl)

-- .. in a group's line: the payer (4, 5), TOTAL (4, and 10 when the group is closed), DATE (4, 11), the line's end
pub in-groups :
    (group K "2 706 x 020118" gives 5 at 2)
    × (group S "2 706 5001 310418" gives 5 at 2)
    × (group C "2 706 5001 x " gives 5 at 2)
    × (group E "2 70x x x" gives 4 at 2)
    × (group K "2 19-19 x 310418" gives 4 at 8)
    × (group E "2 19-19 50,1 x" gives 4 at 8)
    × (group S "2 19-19 5001 310418 " gives 11 at 13)
    × (group K "2 19-19 5002 310418" gives 11 at 13)
    -- an account that is not valid, and a day that is not real, each with a letter
    × (group S "2 70x 5001 020118" gives 4 at 2)
    × (group C "2 19-19 5001 3104x8" gives 4 at 13)
    × (group K "2 19-19 5001 3112x7" gives 4 at 13)
unfolding judged
in-groups = (refl, refl, refl, refl, refl, refl, refl, refl, refl, refl, refl)

-- .. in an item's line: payer and payee (4, 5), amount (4, 6), variable symbol (4), bank field (4, 12, 13), symbol (4), text (4, 14)
pub in-items :
    (payment K "706 706 5001 42 03000558" gives 5 at 0)
    × (payment C "706 7x5 0 x 00000558" gives 5 at 0)
    × (payment S "19-19 7x5 0 42 03000558  " gives 4 at 6)
    × (item K "706 0 42 03000558" gives 5 at 0)
    × (item S "706 x 42 03000558  " gives 5 at 0)
    × (item C "705 0 x 03000558" gives 6 at 4)
    × (item E "705 0 42 00000558" gives 6 at 4)
    × (item K "705 5001 x 00000558" gives 4 at 9)
    × (item S "705 5001 x 103000558  " gives 4 at 9)
    × (item K "705 5001 42 00000558 x" gives 12 at 12)
    × (item S "705 5001 42 103000558 x " gives 13 at 12)
    × (item C "705 5001 42 503000558 \u{1}" gives 13 at 12)
    × (item E "705 5001 42 503000558 17 led" gives 13 at 12)
    × (item K "705 5001 42 03000558 x AV:\u{1}" gives 4 at 21)
    × (item S "705 5001 42 03000558 x a|b" gives 4 at 21)
    × (item E "705 5001 42 03000558 x led" gives 4 at 21)
    -- two faults of one field: an account, an amount, a bank field, a text
    × (item K "7x6 5001 42 03000558" gives 4 at 0)
    × (item C "7060000000000000x 5001 42 03000558" gives 4 at 0)
    × (item E "705 0,0 42 03000558" gives 4 at 4)
    × (item K "705 00000000000000x 42 03000558" gives 4 at 4)
    × (item S "705 9999999999999 42 03000558  " gives 4 at 4)
    × (item K "705 5001 42 0000x558" gives 4 at 12)
    × (item C "705 5001 42 1100000558x" gives 4 at 12)
    × (item K "705 5001 42 1000000558" gives 12 at 12)
    × (item S "705 5001 42 1100000558  " gives 12 at 12)
    × (item E "705 5001 42 100000558" gives 12 at 12)
    × (item K "705 5001 42 03000558 17 led\u{1}" gives 4 at 24)
    × (item S "705 5001 42 03000558  a|b\u{1}" gives 4 at 22)
    × (item C "705 5001 42 03000558 a|b|c|d|e\u{1}" gives 4 at 21)
    × (item E "705 5001 42 03000558 17  xxxxxxxxxxxxxxxxxxxxxxxxxxxxxxxxxxxx" gives 4 at 24)
unfolding judged
in-items = (refl, refl, refl, refl, refl, refl, refl, refl, refl, refl, refl, refl, refl, refl, refl, refl, refl, refl, refl, refl, refl, refl, refl, refl, refl, refl, refl, refl, refl, refl)

-- .. in a closing line, at its first wrong byte; and 3 comes before all of a line's fields, the line before another
pub in-closings :
    (closing K "3+ +" gives 4 at 1)
    × (closing C "3 x+" gives 4 at 2)
    × (ending S "5 x " gives 4 at 2)
    × (ending E "5++ " gives 4 at 2)
    × (opening K "2 706 x 310418" gives 3 at 0)
    × (group C "1 1505 x x" gives 3 at 0)
    × (item E "UHL1x" gives 3 at 0)
    × (closing S "1 1505" gives 3 at 0)
    × (first K "UHL1310218\n1 1505" gives 11 at 4)
    × (opening K "1 1501 000000 0300\n2 706" gives 8 at 14)
    × (group S "2 706 5001 020118\n706" gives 5 at 2)
    × (item C "706\n3x" gives 5 at 0)
    × (closing K "3x\n5x" gives 4 at 0)
unfolding judged
in-closings = (refl, refl, refl, refl, refl, refl, refl, refl, refl, refl, refl, refl, refl)
