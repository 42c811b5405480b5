-- Worked examples of docs/DECISIONS.md, points 26 to 31: what is written, and which rows are refused, computed over the definitions. Assumes nothing.
use Prim.Native.Nat.{ℕ}
use Prim.Native.String.{String}
use mathlib.Core.Bool.{false}
use mathlib.Core.List.{List, [], ◌∷◌, ◌++◌}
use mathlib.Core.Path.{◌≡◌, refl}
use Rattle.paper.specs.Bytes.{bytes}
use Rattle.paper.specs.Numerals.{decimal}
use Rattle.paper.specs.Accounts.{Account, account, nobody}
use Rattle.paper.specs.Batch.{Item, Thing, no_header, a_file, a_group, an_item, strange, things}
use Rattle.paper.specs.Proper.{any, wrong, rows_proper}
use Rattle.paper.specs.Words.{blanks, rows_bytes}
use Rattle.paper.specs.Carried.{rows_carried}
use Rattle.paper.specs.Writing.{drafted, refusal, draft, written_in, output_after}
use Rattle.sheet.specs.Sheets.{sheet_k as K, sheet_s as S, sheet_c as C, sheet_e as E}
use Rattle.cases.specs.Asked.{today, written, rewrites}
use Rattle.cases.specs.Frame.{headed, header, paid, parts, plain_item, plain, due_on, ranked, texts, rows, alone}

-- the frame's rows with this item
abbrev pub row3 : Item → List Thing
row3 x = rows 1501 0 20180102 (account 19 19) x

-- the frame's item with these parts and this name
abbrev pub told : List String → String → Item
told ps name = paid nobody 300 5001 0 5 (parts 4 ps) (bytes name)

-- .. with another payee, variable and constant symbol
abbrev other : Account → ℕ → ℕ → Item
other payee variable constant =
    record {
      payer = nobody;
      payee = payee;
      bank = 300;
      amount = 5001;
      variable = variable;
      specific = 0;
      constant = constant;
      priority = 5;
      parts = parts 4 [];
      name = [];
    }

-- lent rows: the frame's, with place and length of the first part, and with these bytes behind them
abbrev lent : ℕ → ℕ → List ℕ → List ℕ
lent place size rest =
    rows_bytes
    ((1 ∷ 1501 ∷ 0 ∷ blanks 21) ∷ (2 ∷ 20180102 ∷ 19 ∷ 19 ∷ blanks 20)
    ∷ (3 ∷ 0 ∷ 0 ∷ 0 ∷ 705 ∷ 300 ∷ 5001 ∷ 42 ∷ 0 ∷ 558 ∷ 5 ∷ place ∷ size ∷ blanks 11) ∷ [])
    ++ rest

-- Points 26 and 28, the header in writing: row 0, its fields in the order of "The batch"; 20 before 21, and K alone minds that the start is above the end.
-- Point 29: on C it is not looked at.
pub proper-headers :
    (written K (headed 20180229 "RYBNIKY" 10000000000 0 900) [] ≡ refusal 20 0 1)
    × (written S (headed 20180101 "RYBNIKY" 10000000000 0 900) [] ≡ refusal 20 0 2)
    × (written E (headed 20180101 "RYBNIKY             " 10000000000 1000 1000) [] ≡ refusal 20 0 3)
    × (written K (headed 20180101 "RYBNIKY             " 1234567890 1000 1000) [] ≡ refusal 20 0 4)
    × (written S (headed 20180101 "RYBNIKY             " 1234567890 0 1000) [] ≡ refusal 20 0 5)
    × (written K (headed 20180101 "RYBNIKY             " 1234567890 901 900) [] ≡ refusal 20 1 0)
    × (written K (headed 20180101 "RYBNIKY             " 1234567890 901 900) (things plain) ≡ refusal 21 0 5)
    × (written C (headed 20180229 "" 10000000000 1000 1000) [] ≡ refusal 20 1 0)
unfolding written
proper-headers = (refl, refl, refl, refl, refl, refl, refl, refl)

-- Point 27: a missing row has the number that it would have had; it, a row not due and a row too many are refused at field 0. A sum that passes 14 digits
-- is refused at the amount with which it passes, before that item's later fields.
pub proper-rows :
    (written C no_header [] ≡ refusal 20 1 0)
    × (written C no_header (a_file 1501 0 ∷ []) ≡ refusal 20 2 0)
    × (written C no_header (a_file 1501 0 ∷ a_group 20180102 nobody ∷ []) ≡ refusal 20 3 0)
    × (written C no_header (an_item plain_item ∷ []) ≡ refusal 20 1 0)
    × (written C no_header (a_file 1501 0 ∷ an_item plain_item ∷ []) ≡ refusal 20 2 0)
    × (written C no_header (a_file 1501 0 ∷ a_file 1505 0 ∷ []) ≡ refusal 20 2 0)
    × (written C no_header (things plain ++ (strange ∷ [])) ≡ refusal 20 4 0)
    × (written C no_header (rows 1501 0 20180102 (account 19 19) (paid nobody 300 99999999999999 0 5 (parts 4 []) []) ++ (an_item (paid nobody 300 1 0 2 (parts 4 []) []) ∷ [])) ≡ refusal 20 4 6)
    × (rows_proper 1001 (record { stage = any; files = 1000; items = 1; single = false; sum = 0 }) (a_file 1505 0 ∷ []) ≡ wrong 1001 0)
    × (rows_proper 7 (record { stage = any; files = 1; items = 99999; single = false; sum = 0 }) (an_item plain_item ∷ []) ≡ wrong 7 0)
    × (rows_proper 7 (record { stage = any; files = 1; items = 99997; single = false; sum = 0 }) (an_item plain_item ∷ an_item plain_item ∷ an_item plain_item ∷ []) ≡ wrong 9 0)
    × (rows_carried S today no_header 1003 (record { items = 1000; seen = []; kind = 1501; date = 20180102 }) (an_item plain_item ∷ []) ≡ wrong 1003 0)
unfolding written
proper-rows = (refl, refl, refl, refl, refl, refl, refl, refl, refl, refl, refl, refl)

-- Points 26 and 28: 20 is what "The batch" says for every sheet, a row's fields in its order, each by the number of its word.
pub proper-fields :
    (written C no_header (rows 1505 1000000 20180102 (account 19 19) plain_item) ≡ refusal 20 1 1)
    × (written C no_header (rows 1501 1000000 20180229 (account 19 19) plain_item) ≡ refusal 20 1 2)
    × (written C no_header (rows 1501 0 20180229 (account 0 706) plain_item) ≡ refusal 20 2 1)
    × (written C no_header (rows 1501 0 20180102 (account 0 706) plain_item) ≡ refusal 20 2 2)
    -- an item has a payer exactly in a single group
    × (written C no_header (rows 1501 0 20180102 nobody plain_item) ≡ refusal 20 3 1)
    × (written C no_header (row3 (paid (account 19 19) 0 0 0 5 (parts 4 []) [])) ≡ refusal 20 3 1)
    × (written C no_header (row3 (other (account 0 706) 10000000000 10000)) ≡ refusal 20 3 3)
    × (written C no_header (row3 (other (account 0 705) 10000000000 10000)) ≡ refusal 20 3 7)
    × (written C no_header (row3 (other (account 0 705) 9999999999 10000)) ≡ refusal 20 3 9)
    × (written C no_header (row3 (paid nobody 0 0 0 2 (parts 4 []) [])) ≡ refusal 20 3 5)
    × (written C no_header (row3 (paid nobody 10000 0 0 2 (parts 4 []) [])) ≡ refusal 20 3 5)
    × (written C no_header (row3 (paid nobody 300 0 10000000000 2 (parts 4 []) [])) ≡ refusal 20 3 6)
    × (written C no_header (row3 (paid nobody 300 5001 10000000000 2 (parts 4 []) [])) ≡ refusal 20 3 8)
    × (written C no_header (row3 (paid nobody 300 5001 0 2 (parts 4 ("a|b" ∷ [])) [])) ≡ refusal 20 3 10)
    × (written K (header K) (row3 (paid nobody 300 5001 0 10 (parts 4 []) [])) ≡ refusal 20 3 10)
    × (written S (header S) (row3 (told ("a|b" ∷ []) "")) ≡ refusal 20 3 11)
    × (written K (header K) (row3 (told ("a" ∷ "b" ∷ "c" ∷ "\u{1}" ∷ []) "Jan")) ≡ refusal 20 3 17)
    × (written C no_header (row3 (told [] "xxxxxxxxxxxxxxxxxxxxxxxxxxxxxxxxxxxx")) ≡ refusal 20 3 19)
unfolding written
proper-fields = (refl, refl, refl, refl, refl, refl, refl, refl, refl, refl, refl, refl, refl, refl, refl, refl, refl, refl)

-- Points 28 and 29: all of 20 comes before any of 21, which is what the one sheet narrows.
pub carried-fields :
    (written K (header K) (rows 1502 0 20180102 (account 19 19) (paid nobody 300 5001 0 2 (parts 4 []) [])) ≡ refusal 20 3 10)
    × (written K (header K) (rows 1502 901000 20180102 (account 19 19) plain_item) ≡ refusal 21 1 1)
    × (written K (header K) (rows 1501 901000 20171231 (account 19 19) plain_item) ≡ refusal 21 1 2)
    × (written K (header K) (things plain ++ things plain) ≡ refusal 21 4 2)
    × (written K (header K) (rows 1501 0 20171231 (account 19 19) plain_item) ≡ refusal 21 2 1)
    × (written S (header S) (rows 1501 0 20171231 (account 19 19) plain_item) ≡ refusal 21 2 1)
    × (written C no_header (rows 1501 0 20190102 (account 19 19) plain_item) ≡ refusal 21 2 1)
    × (written S (header S) (row3 (paid nobody 300 1000000000000 0 7 (parts 4 []) [])) ≡ refusal 21 3 6)
    × (written E (header E) (row3 (paid nobody 300 1000000000000 0 5 (parts 4 []) [])) ≡ refusal 21 3 6)
    × (written C no_header (row3 (paid nobody 300 5001 0 7 (parts 4 []) [])) ≡ refusal 21 3 10)
    × (written S (header S) (row3 (told ("a" ∷ "b" ∷ []) "Jan")) ≡ refusal 21 3 13)
    × (written E (header E) (row3 (told [] "Jan")) ≡ refusal 21 3 19)
    × (written C no_header (row3 (told ("a NP:b" ∷ []) "Jan")) ≡ refusal 21 3 11)
unfolding written
carried-fields = (refl, refl, refl, refl, refl, refl, refl, refl, refl, refl, refl, refl, refl)

-- "Canonical spelling": the one file of a batch on each sheet.
pub spellings :
    (written K (header K) (things plain) ≡ drafted (bytes "UHL1010118RYBNIKY             1234567890000900000000000000\r\n1 1501 000000 8100\r\n2 19-19 5001 020118\r\n705 5001 42 03000558\r\n3 +\r\n5 +\r\n"))
    × (written K (header K) (things (ranked 7)) ≡ drafted (bytes "UHL1010118RYBNIKY             1234567890000900000000000000\r\n1 1501 000000 8100\r\n2 19-19 5001 020118\r\n705 5001 42 0703000558\r\n3 +\r\n5 +\r\n"))
    × (written K (header K) (row3 (paid nobody 1 1 1 3 (parts 4 []) [])) ≡ drafted (bytes "UHL1010118RYBNIKY             1234567890000900000000000000\r\n1 1501 000000 8100\r\n2 19-19 1 020118\r\n705 1 42 0300010558 1\r\n3 +\r\n5 +\r\n"))
    × (written K (header K) (row3 (paid nobody 9999 99999999999999 9999999999 9 (parts 4 []) [])) ≡ drafted (bytes "UHL1010118RYBNIKY             1234567890000900000000000000\r\n1 1501 000000 8100\r\n2 19-19 99999999999999 020118\r\n705 99999999999999 42 0999990558 9999999999\r\n3 +\r\n5 +\r\n"))
    × (written K (header K) (things (texts 0 ("led" ∷ "" ∷ "ryby" ∷ []) "")) ≡ drafted (bytes "UHL1010118RYBNIKY             1234567890000900000000000000\r\n1 1501 000000 8100\r\n2 19-19 5001 020118\r\n705 5001 42 03000558 0 AV:led||ryby\r\n3 +\r\n5 +\r\n"))
    × (written K (header K) (things alone) ≡ drafted (bytes "UHL1010118RYBNIKY             1234567890000900000000000000\r\n1 1501 000000 8100\r\n2 5001 020118\r\n19-19 705 5001 42 03000558\r\n3 +\r\n5 +\r\n"))
    × (written S (header S) (things plain) ≡ drafted (bytes "UHL1010118RYBNIKY             1234567890000900000000000000\r\n1 1501 000000 0800\r\n2 19-19 5001 020118\r\n705 5001 42 03000558  \r\n3 +\r\n5 +\r\n"))
    × (written S (header S) (things (texts 17 (" led" ∷ []) "")) ≡ drafted (bytes "UHL1010118RYBNIKY             1234567890000900000000000000\r\n1 1501 000000 0800\r\n2 19-19 5001 020118\r\n705 5001 42 03000558 17  led\r\n3 +\r\n5 +\r\n"))
    × (written E (header E) (things alone) ≡ drafted (bytes "UHL1010118RYBNIKY             1234567890000900000000000000\r\n1 1501 000000 6100\r\n2  5001 020118\r\n19-19 705 5001 42 03000558\r\n3 +\r\n5 +\r\n"))
    × (written E (header E) (things (texts 17 [] "")) ≡ drafted (bytes "UHL1010118RYBNIKY             1234567890000900000000000000\r\n1 1501 000000 6100\r\n2 19-19 5001 020118\r\n705 5001 42 03000558 17\r\n3 +\r\n5 +\r\n"))
    × (written C no_header (things (due_on 20171231)) ≡ drafted (bytes "UHL1\r\n1 1501 000000 0300\r\n2 19-19 5001 311217\r\n705 5001 42 03000558\r\n3 +\r\n5 +\r\n"))
    × (written C no_header (things (texts 0 ("led" ∷ []) "Jan")) ≡ drafted (bytes "UHL1\r\n1 1501 000000 0300\r\n2 19-19 5001 020118\r\n705 5001 42 03000558 0 AV:led NP:Jan\r\n3 +\r\n5 +\r\n"))
    × (written C no_header (things (texts 0 ("xxxxxxxxxxxxxxxxxxxxxxxxxxxxxxxxxxx" ∷ []) "xxxxxxxxxxxxxxxxxxxxxxxxxxxxxxxxxxx")) ≡ drafted (bytes "UHL1\r\n1 1501 000000 0300\r\n2 19-19 5001 020118\r\n705 5001 42 03000558 0 AV:xxxxxxxxxxxxxxxxxxxxxxxxxxxxxxxxxxx NP:xxxxxxxxxxxxxxxxxxxxxxxxxxxxxxxxxxx\r\n3 +\r\n5 +\r\n"))
    × (written C no_header (things (texts 0 [] "Jan")) ≡ drafted (bytes "UHL1\r\n1 1501 000000 0300\r\n2 19-19 5001 020118\r\n705 5001 42 03000558 0 NP:Jan\r\n3 +\r\n5 +\r\n"))
unfolding written
spellings = (refl, refl, refl, refl, refl, refl, refl, refl, refl, refl, refl, refl, refl, refl)

-- Numbers have no needless zeros, and one digit at least.
pub numerals : (decimal 0 ≡ bytes "0") × (decimal 9 ≡ bytes "9") × (decimal 10 ≡ bytes "10") × (decimal 18446744073709551615 ≡ bytes "18446744073709551615")
unfolding written
numerals = (refl, refl, refl, refl)

-- The answer of writing: number, row, field and the bytes written or, with 16, needed. The file stands in front of the old bytes; a refusal, 16 too, leaves
-- the output as it was.
pub outputs :
    (written_in 3 (drafted (bytes "led")) ≡ record { number = 0; row = 0; field = 0; bytes = 3 })
    × (written_in 2 (drafted (bytes "led")) ≡ record { number = 16; row = 0; field = 0; bytes = 3 })
    × (written_in 9 (refusal 20 3 11) ≡ record { number = 20; row = 3; field = 11; bytes = 0 })
    × (output_after (bytes "ryby") (drafted (bytes "led")) ≡ bytes "ledy")
    × (output_after (bytes "le") (drafted (bytes "led")) ≡ bytes "le")
    × (output_after (bytes "ryby") (refusal 20 3 11) ≡ bytes "ryby")
unfolding rewrites
outputs = (refl, refl, refl, refl, refl, refl)

-- Points 30 and 31: an empty text may lie anywhere in the lent bytes, at their end too, and no text reaches past them. Bytes that are left over behind
-- the last row are a row of no known kind.
pub lent_rows :
    (draft 3 today no_header (lent 0 3 []) (bytes "led") ≡ drafted (bytes "UHL1\r\n1 1501 000000 0300\r\n2 19-19 5001 020118\r\n705 5001 42 03000558 0 AV:led\r\n3 +\r\n5 +\r\n"))
    × (draft 3 today no_header (lent 3 0 []) (bytes "led") ≡ drafted (bytes "UHL1\r\n1 1501 000000 0300\r\n2 19-19 5001 020118\r\n705 5001 42 03000558\r\n3 +\r\n5 +\r\n"))
    × (draft 3 today no_header (lent 4 0 []) (bytes "led") ≡ refusal 20 3 11)
    × (draft 3 today no_header (lent 1 3 []) (bytes "led") ≡ refusal 20 3 11)
    × (draft 3 today no_header (lent 0 3 (0 ∷ [])) (bytes "led") ≡ refusal 20 4 0)
    × (draft 6 20180229 no_header (lent 0 3 []) (bytes "led") ≡ refusal 1 0 0)
    × (draft 3 20180229 no_header (lent 0 3 []) (bytes "led") ≡ refusal 2 0 0)
unfolding rewrites
lent_rows = (refl, refl, refl, refl, refl, refl, refl)
