-- Worked examples of document 02, W-201: sheet 5, letter P, the previous edition of sheet C, computed over the definitions. Assumes nothing.
use mathlib.Core.List.{[], ◌∷◌, ◌++◌}
use mathlib.Core.Path.{◌≡◌, refl}
use lib.ListN.{drop}
use Rattle.paper.specs.Bytes.{bytes}
use Rattle.paper.specs.Accounts.{account, nobody}
use Rattle.paper.specs.Batch.{no_header, things}
use Rattle.paper.specs.Judge.{Accepted}
use Rattle.paper.specs.Writing.{drafted, refusal, draft}
use Rattle.paper.specs.Rewriting.{rewriting}
use Rattle.sheet.specs.Sheets.{sheet_c as C, sheet_p as P}
use Rattle.cases.specs.Asked.{today, judged, written, rewrites}
use Rattle.cases.specs.Frame.{frame, ended_by, first, opening, group, single, item, payment, closing, ending, headed, header, paid, parts, plain_item, plain, filed, due_on, texts, rows, alone, ◌gives◌at◌, ◌reads◌warned◌, ◌heads◌}
use Rattle.cases.proofs.Writing.{row3, told}

-- The first line is S's: 58 bytes, and a start above the end is no fault. `#` and `~` may stand in it. Numbers of account files may come twice.
pub first-lines :
    (first P "UHL1010118RYBNIKY             1234567890000900" gives 4 at 46)
    × (first P "UHL1010118RYBNIKY             1234567890000900000000" gives 4 at 46)
    × (first P "UHL1010118RYBNIKY # ~         1234567890901900  ##~~    x " heads headed 20180101 "RYBNIKY # ~         " 1234567890 901 900)
    × (first P "UHL1310218" gives 11 at 4)
    × (first P "UHL1" gives 4 at 4)
    × (judged P (ended_by "\n" (frame P) ++ ended_by "\n" (drop 1 (frame P))) ≡ Accepted (header P) (plain ++ plain) 0)
unfolding judged
first-lines = (refl, refl, refl, refl, refl, refl)

-- Kinds 1501 and 1502, BANK 0300 alone, `3 +` and `5 +` alone.
pub heads :
    (opening P "1 1502 999999 0300" reads filed 1502 999999 warned 0)
    × (opening P "1 1503 000000 0300" gives 7 at 2)
    × (opening P "1 1501 000000 0800" gives 8 at 14)
    × (closing P "3+" gives 4 at 1)
    × (ending P "5+" gives 4 at 1)
unfolding judged
heads = (refl, refl, refl, refl, refl)

-- The payer's field is missing with fewer than three spaces, zeros are an account, and accounts may be joined. The total must agree. Days are C's.
pub groups :
    (single P "2 5001 020118" reads alone warned 0)
    × (group P "2 5001 020118 " gives 5 at 2)
    × (group P "2 0 5001 020118" gives 5 at 2)
    × (group P "2 00000000000000000 5001 020118" gives 4 at 2)
    × (group P "2 0000190000000019 5001 020118" reads plain warned 0)
    × (group P "2 9 5001 020118" gives 5 at 2)
    × (group P "2 19-19 5000 020118" gives 10 at 8)
    × (group P "2 19-19 50,01 020118" gives 4 at 8)
    × (group P "2 19-19 5001 20171231" reads due_on 20171231 warned 1)
    × (group P "2 19-19 5001 311217" reads due_on 20171231 warned 1)
    × (group P "2 19-19 5001 010119" reads due_on 20190101 warned 0)
    × (group P "2 19-19 5001 020119" gives 11 at 13)
unfolding judged
groups = (refl, refl, refl, refl, refl, refl, refl, refl, refl, refl, refl, refl)

-- The tail is K's: a symbol stands before a text, `AV:` begins it, nothing is cut. There is no name: ` NP:` is four bytes of a part. `#` and `~` are 14
-- at the text's start, behind 4. There is no priority.
pub items :
    (item P "705 5001 42 03000558 17 AV:a NP:b" reads texts 17 ("a NP:b" ∷ []) "" warned 0)
    × (item P "705 5001 42 03000558 17 AV:a|b|c|d" reads texts 17 ("a" ∷ "b" ∷ "c" ∷ "d" ∷ []) "" warned 0)
    × (item P "705 5001 42 03000558 17 AV:a|b|c|d|e" gives 14 at 24)
    × (item P "705 5001 42 03000558 17 AV:#" gives 14 at 24)
    × (item P "705 5001 42 03000558 17 AV:a|b~" gives 14 at 24)
    × (item P "705 5001 42 03000558 17 x" gives 14 at 24)
    × (item P "705 5001 42 03000558 17 NP:x" gives 14 at 24)
    × (item P "705 5001 42 03000558 17 AV:xxxxxxxxxxxxxxxxxxxxxxxxxxxxxxxxxxxx" gives 14 at 24)
    × (item P "705 5001 42 03000558 17 AV:#\u{1f}" gives 4 at 24)
    × (item P "705 5001 42 03000558 AV:x" gives 4 at 21)
    × (item P "705 99999999999999 42 103000558" gives 13 at 22)
    × (item P "705 5001 42 0003000558" reads plain warned 0)
    × (payment P "0000190000000019 705 5001 42 03000558" reads alone warned 0)
    × (payment P "19-19 706" gives 5 at 6)
unfolding judged
items = (refl, refl, refl, refl, refl, refl, refl, refl, refl, refl, refl, refl, refl, refl)

-- Writing: 21 at the part with `#` or `~`, at a name, a priority, a kind and a day; a header is looked at. Canonical spelling is K's without a priority.
pub carried :
    (written P (header P) (row3 (told ("#" ∷ []) "")) ≡ refusal 21 3 11)
    × (written P (header P) (row3 (told ("a" ∷ "b~" ∷ "#" ∷ []) "")) ≡ refusal 21 3 13)
    × (written P (header P) (row3 (told ("" ∷ "" ∷ "~" ∷ []) "Jan")) ≡ refusal 21 3 15)
    × (written P (header P) (row3 (told ("" ∷ "" ∷ "" ∷ "x#" ∷ []) "")) ≡ refusal 21 3 17)
    × (written P (header P) (row3 (told [] "Jan")) ≡ refusal 21 3 19)
    × (written P (header P) (row3 (paid nobody 300 5001 0 7 (parts 4 ("#" ∷ [])) [])) ≡ refusal 21 3 10)
    × (written P (header P) (rows 1503 0 20180102 (account 19 19) plain_item) ≡ refusal 21 1 1)
    × (written P (header P) (rows 1501 0 20190102 (account 19 19) plain_item) ≡ refusal 21 2 1)
    × (written P (headed 20180229 "RYBNIKY             " 1234567890 0 900) (things plain) ≡ refusal 20 0 1)
    × (written C no_header (row3 (told ("a NP:b" ∷ []) "")) ≡ refusal 21 3 11)
    × (written P (header P) (row3 (told ("a NP:b" ∷ []) "")) ≡ drafted (bytes "UHL1010118RYBNIKY             1234567890000900000000000000\r\n1 1501 000000 0300\r\n2 19-19 5001 020118\r\n705 5001 42 03000558 0 AV:a NP:b\r\n3 +\r\n5 +\r\n"))
    × (written P (header P) (things alone) ≡ drafted (bytes "UHL1010118RYBNIKY             1234567890000900000000000000\r\n1 1501 000000 0300\r\n2 5001 020118\r\n19-19 705 5001 42 03000558\r\n3 +\r\n5 +\r\n"))
unfolding written
carried = (refl, refl, refl, refl, refl, refl, refl, refl, refl, refl, refl, refl)

-- 5 and `P` name it; 6 and `p` name nothing.
pub names :
    (draft 5 20180229 no_header [] [] ≡ refusal 2 0 0)
    × (draft 6 today no_header [] [] ≡ refusal 1 0 0)
    × (rewriting (bytes "P 010118\nUHL1010118RYBNIKY             1234567890000900") ≡ bytes "refused 4 line 1 byte 46\n")
    × (rewriting (bytes "p 010118\n") ≡ bytes "refused 1 line 0 byte 0\n")
unfolding rewrites
names = (refl, refl, refl, refl)
