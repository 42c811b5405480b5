-- Worked examples of docs/DECISIONS.md, points 11 to 24: an item's line, its fields and its texts, computed over the definitions. Assumes nothing.
use mathlib.Core.List.{[], ◌∷◌}
use mathlib.Core.Path.{refl}
use Rattle.sheet.specs.Sheets.{sheet_k as K, sheet_s as S, sheet_c as C, sheet_e as E}
use Rattle.cases.specs.Asked.{judged}
use Rattle.cases.specs.Frame.{item, payment, plain, ranked, texts, ◌gives◌at◌, ◌reads◌warned◌}

-- Points 11, 15 and 16, an item's accounts: in an item zeros are always an account. K counts two digits of a base as spelled. A field's own faults
-- come before the divider behind it.
pub accounts :
    (item K "706" gives 5 at 0)
    × (item S "706" gives 5 at 0)
    × (item C "706" gives 5 at 0)
    × (item E "706" gives 5 at 0)
    × (item K "0" gives 4 at 0)
    × (item K "00" gives 5 at 0)
    × (item K "9" gives 4 at 0)
    × (item K "09" gives 5 at 0)
    × (item S "9" gives 5 at 0)
    × (item K "19-9" gives 4 at 0)
    × (item C "-19" gives 4 at 0)
    × (item E "1-9-9" gives 4 at 0)
    × (item S "0000019-19" gives 4 at 0)
    × (item K "19-00000000019" gives 4 at 0)
    × (item E "00000000705" gives 4 at 0)
    × (item C "00000190000000019" gives 4 at 0)
    × (item K "705" gives 4 at 3)
    × (item C "705  5001 42 03000558" gives 4 at 4)
    × (payment S "0 705 5001 42 03000558  " gives 5 at 0)
    × (payment E "19-19 706" gives 5 at 6)
    × (payment C "19-19" gives 4 at 5)
unfolding judged
accounts = (refl, refl, refl, refl, refl, refl, refl, refl, refl, refl, refl, refl, refl, refl, refl, refl, refl, refl, refl, refl, refl)

-- Point 17, an item's amount: on S 13 digits are 4, whatever they say; on E the comma counts among the 14 bytes, and 10 ^ 12 or more is 6. Zero is 6.
pub amounts :
    (item S "705 0000000005001 42 03000558  " gives 4 at 4)
    × (item S "705 000000005001 42 03000558  " reads plain warned 0)
    × (item E "705 50,01 42 03000558" reads plain warned 0)
    × (item E "705 00000000050,01 42 03000558" reads plain warned 0)
    × (item E "705 000000000050,01 42 03000558" gives 4 at 4)
    × (item C "705 50,01 42 03000558" gives 4 at 4)
    × (item E "705 5,00,1 42 03000558" gives 4 at 4)
    × (item E "705 5,001 42 03000558" gives 4 at 4)
    × (item E "705 1000000000000 42 03000558" gives 6 at 4)
    × (item E "705 10000000000,00 42 03000558" gives 6 at 4)
    × (item K "705 000000000005001 42 03000558" gives 4 at 4)
    × (item K "705 0 42 03000558" gives 6 at 4)
    × (item E "705 0,00 42 03000558" gives 6 at 4)
    × (item K "705 5001" gives 4 at 8)
unfolding judged
amounts = (refl, refl, refl, refl, refl, refl, refl, refl, refl, refl, refl, refl, refl, refl)

-- The variable symbol has 1 to 10 digits. Point 12: on K, C and E a space behind the bank field announces a symbol or a text, and one behind the
-- symbol a text; nothing there is 4 at the line's end.
pub symbols :
    (item K "705 5001 12345678901 03000558" gives 4 at 9)
    × (item K "705 5001 4: 03000558" gives 4 at 9)
    × (item E "705 5001 4/ 03000558" gives 4 at 9)
    × (item S "705 5001  03000558  " gives 4 at 9)
    × (item C "705 5001 42" gives 4 at 11)
    × (item K "705 5001 0000000042 03000558" reads plain warned 0)
    × (item K "705 5001 42 03000558 " gives 4 at 21)
    × (item C "705 5001 42 03000558 " gives 4 at 21)
    × (item E "705 5001 42 03000558 " gives 4 at 21)
    × (item K "705 5001 42 03000558 17 " gives 4 at 24)
    × (item C "705 5001 42 03000558 17 " gives 4 at 24)
    × (item E "705 5001 42 03000558 17 " gives 4 at 24)
    × (item K "705 5001 42 03000558 0000000017" reads texts 17 [] "" warned 0)
    × (item E "705 5001 42 03000558 7" reads texts 7 [] "" warned 0)
    × (item E "705 5001 42 03000558 00000000017" gives 4 at 21)
unfolding judged
symbols = (refl, refl, refl, refl, refl, refl, refl, refl, refl, refl, refl, refl, refl, refl, refl)

-- Point 20, the bank field: 8 to 10 digits, else 4; then 12 for the bank 0000, then 13 for the tenth digit, on K too, and for the ninth, which on K is
-- the priority.
pub banks :
    (item K "705 5001 42 3000558" gives 4 at 12)
    × (item C "705 5001 42 00003000558" gives 4 at 12)
    × (item E "705 5001 42 0300055x" gives 4 at 12)
    × (item K "705 5001 42 00000558" gives 12 at 12)
    × (item C "705 5001 42 0000000558" gives 12 at 12)
    × (item K "705 5001 42 1003000558" gives 13 at 12)
    × (item S "705 5001 42 103000558  " gives 13 at 12)
    × (item C "705 5001 42 503000558" gives 13 at 12)
    × (item E "705 5001 42 0103000558" gives 13 at 12)
    × (item E "705 5001 42 0003000558" reads plain warned 0)
    × (item K "705 5001 42 003000558" reads plain warned 0)
    × (item K "705 5001 42 0203000558" reads plain warned 1)
    × (item K "705 5001 42 0303000558" reads ranked 3 warned 0)
    × (item K "705 5001 42 903000558" reads ranked 9 warned 0)
unfolding judged
banks = (refl, refl, refl, refl, refl, refl, refl, refl, refl, refl, refl, refl, refl, refl)

-- Point 21: a byte that is no text byte is 4, anywhere in the text and also behind a cut; then 14. Both stand at the text's start.
pub text-bytes :
    (item K "705 5001 42 03000558 17 AV:a\u{1}" gives 4 at 24)
    × (item E "705 5001 42 03000558 17 AV:a|\u{7f}" gives 4 at 24)
    × (item S "705 5001 42 03000558  a\t" gives 4 at 22)
    × (item C "705 5001 42 03000558 xxxxxxxxxxxxxxxxxxxxxxxxxxxxxxxxxxxx\u{1}" gives 4 at 21)
    × (item C "705 5001 42 03000558 17 a NP:\u{1}" gives 4 at 24)
    × (item K "705 5001 42 03000558 17 led" gives 14 at 24)
    × (item E "705 5001 42 03000558 17 av:led" gives 14 at 24)
    × (item K "705 5001 42 03000558 17 AV:ý" reads texts 17 ("ý" ∷ []) "" warned 0)
unfolding judged
text-bytes = (refl, refl, refl, refl, refl, refl, refl, refl)

-- Point 22: on S a missing space is 4 at the line's end, a bad symbol comes before it, and a third space belongs to the part.
pub parts-of-s :
    (item S "705 5001 42 03000558" gives 4 at 20)
    × (item S "705 5001 42 03000558 " gives 4 at 21)
    × (item S "705 5001 42 03000558 17" gives 4 at 23)
    × (item S "705 5001 42 03000558 1x" gives 4 at 21)
    × (item S "705 5001 42 03000558 00000000017 " gives 4 at 21)
    × (item S "705 5001 42 03000558 17 " reads texts 17 [] "" warned 0)
    × (item S "705 5001 42 03000558   a" reads texts 0 (" a" ∷ []) "" warned 0)
    × (item S "705 5001 42 03000558  AV:a" reads texts 0 ("AV:a" ∷ []) "" warned 0)
    × (item S "705 5001 42 03000558  a|b" gives 14 at 22)
    × (item S "705 5001 42 03000558  xxxxxxxxxxxxxxxxxxxxxxxxxxxxxxxxxxxx" gives 14 at 22)
    × (item S "705 5001 42 03000558  xxxxxxxxxxxxxxxxxxxxxxxxxxxxxxxxxxx" reads texts 0 ("xxxxxxxxxxxxxxxxxxxxxxxxxxxxxxxxxxx" ∷ []) "" warned 0)
unfolding judged
parts-of-s = (refl, refl, refl, refl, refl, refl, refl, refl, refl, refl, refl)

-- Point 23: on K and E a text with no symbol before it is 4 at the symbol. `AV:` alone is one empty part; there are up to four, of up to 35 bytes.
pub parts-of-k-and-e :
    (item K "705 5001 42 03000558 AV:led" gives 4 at 21)
    × (item E "705 5001 42 03000558 AV:led" gives 4 at 21)
    × (item K "705 5001 42 03000558  AV:led" gives 4 at 21)
    × (item K "705 5001 42 03000558 17  AV:led" gives 4 at 24)
    × (item K "705 5001 42 03000558 17 AV:" reads texts 17 [] "" warned 0)
    × (item E "705 5001 42 03000558 17 AV:|||" reads texts 17 [] "" warned 0)
    × (item K "705 5001 42 03000558 17 AV:||||" gives 14 at 24)
    × (item K "705 5001 42 03000558 17 AV:led|a ryby||NP:x" reads texts 17 ("led" ∷ "a ryby" ∷ "" ∷ "NP:x" ∷ []) "" warned 0)
    × (item K "705 5001 42 03000558 17 AV:xxxxxxxxxxxxxxxxxxxxxxxxxxxxxxxxxxxx" gives 14 at 24)
    × (item E "705 5001 42 03000558 17 AV:xxxxxxxxxxxxxxxxxxxxxxxxxxxxxxxxxxx|xxxxxxxxxxxxxxxxxxxxxxxxxxxxxxxxxxxx" gives 14 at 24)
    × (item E "705 5001 42 03000558 17 AV:xxxxxxxxxxxxxxxxxxxxxxxxxxxxxxxxxxx" reads texts 17 ("xxxxxxxxxxxxxxxxxxxxxxxxxxxxxxxxxxx" ∷ []) "" warned 0)
unfolding judged
parts-of-k-and-e = (refl, refl, refl, refl, refl, refl, refl, refl, refl, refl, refl)

-- Point 24: on C one to ten digits are the symbol, and eleven or none begin a text. A name begins behind `NP:` at the text's start, else behind its first
-- ` NP:`, which is looked for before anything is cut; it runs to the line's end, and parts are counted before it. Each cut is a warning.
pub texts-of-c :
    (item C "705 5001 42 03000558 1234567890" reads texts 1234567890 [] "" warned 0)
    × (item C "705 5001 42 03000558 12345678901" reads texts 0 ("12345678901" ∷ []) "" warned 0)
    × (item C "705 5001 42 03000558 17 led" reads texts 17 ("led" ∷ []) "" warned 0)
    × (item C "705 5001 42 03000558 17x led" reads texts 0 ("17x led" ∷ []) "" warned 0)
    × (item C "705 5001 42 03000558  led" gives 4 at 21)
    × (item C "705 5001 42 03000558 17  led" gives 4 at 24)
    × (item C "705 5001 42 03000558 AV:NP:Jan" reads texts 0 ("NP:Jan" ∷ []) "" warned 0)
    × (item C "705 5001 42 03000558 NP:Jan" reads texts 0 [] "Jan" warned 0)
    × (item C "705 5001 42 03000558 AV: NP:Jan" reads texts 0 [] "Jan" warned 0)
    × (item C "705 5001 42 03000558 NP:" reads texts 0 [] "" warned 0)
    × (item C "705 5001 42 03000558 led NP:" reads texts 0 ("led" ∷ []) "" warned 0)
    × (item C "705 5001 42 03000558 led NP:Jan NP:K|L" reads texts 0 ("led" ∷ []) "Jan NP:K|L" warned 0)
    × (item C "705 5001 42 03000558 NP:Jan NP:K" reads texts 0 [] "Jan NP:K" warned 0)
    × (item C "705 5001 42 03000558 AV:a|b|c|d NP:e|f" reads texts 0 ("a" ∷ "b" ∷ "c" ∷ "d" ∷ []) "e|f" warned 0)
    × (item C "705 5001 42 03000558 AV:a|b|c|d|e" gives 14 at 21)
    × (item C "705 5001 42 03000558 xxxxxxxxxxxxxxxxxxxxxxxxxxxxxxxxxxxx" reads texts 0 ("xxxxxxxxxxxxxxxxxxxxxxxxxxxxxxxxxxx" ∷ []) "" warned 1)
    × (item C "705 5001 42 03000558 xxxxxxxxxxxxxxxxxxxxxxxxxxxxxxxxxxxx NP:Jan" reads texts 0 ("xxxxxxxxxxxxxxxxxxxxxxxxxxxxxxxxxxx" ∷ []) "Jan" warned 1)
    × (item C "705 5001 42 03000558 xxxxxxxxxxxxxxxxxxxxxxxxxxxxxxxxxxxx|xxxxxxxxxxxxxxxxxxxxxxxxxxxxxxxxxxxx NP:xxxxxxxxxxxxxxxxxxxxxxxxxxxxxxxxxxxx" reads texts 0 ("xxxxxxxxxxxxxxxxxxxxxxxxxxxxxxxxxxx" ∷ "xxxxxxxxxxxxxxxxxxxxxxxxxxxxxxxxxxx" ∷ []) "xxxxxxxxxxxxxxxxxxxxxxxxxxxxxxxxxxx" warned 3)
unfolding judged
texts-of-c = (refl, refl, refl, refl, refl, refl, refl, refl, refl, refl, refl, refl, refl, refl, refl, refl, refl, refl)
