-- Worked examples of docs/DECISIONS.md, points 25 and 32: whole answers of reading and rewriting, computed over the definitions.
-- Assumes nothing.
use Prim.Native.Nat.{ℕ}
use mathlib.Core.List.{List, [], ◌∷◌, ◌++◌}
use mathlib.Core.Path.{◌≡◌, refl}
use lib.ListN.{replicate}
use Rattle.sheet.specs.declared.Sheet.{Sheet}
use Rattle.paper.specs.Bytes.{bytes}
use Rattle.paper.specs.Accounts.{Account, account, nobody}
use Rattle.paper.specs.Batch.{Header, no_header}
use Rattle.paper.specs.Words.{blanks, rows_bytes}
use Rattle.paper.specs.Reading.{ReadAnswer, read_answer, rows_after}
use Rattle.paper.specs.Rewriting.{rewriting}
use Rattle.sheet.specs.Sheets.{sheet_k as K, sheet_s as S, sheet_c as C, sheet_e as E}
use Rattle.cases.specs.Asked.{today, rewrites}
use Rattle.cases.specs.Frame.{frame, ended_by, group, item, single, header}

-- the frame as a file
abbrev file : Sheet → List ℕ
file sh = ended_by "\n" (frame sh)

-- an answer of reading: number, line, byte, rows, warnings, rows needed, header
abbrev answer : ℕ → ℕ → ℕ → ℕ → ℕ → ℕ → Header → ReadAnswer
answer number line byte rows warnings needed header =
    record { number = number; line = line; byte = byte; rows = rows; warnings = warnings; needed = needed; header = header }

-- the frame's rows: the group's payer, the item's payer, its specific symbol, places and lengths of its parts and name
abbrev left : Account → Account → ℕ → List ℕ → List ℕ
left payer own specific texts =
    rows_bytes
    ((1 ∷ 1501 ∷ 0 ∷ blanks 21) ∷ (2 ∷ 20180102 ∷ payer.prefix ∷ payer.base ∷ blanks 20)
    ∷ (3 ∷ own.prefix ∷ own.base ∷ 0 ∷ 705 ∷ 300 ∷ 5001 ∷ 42 ∷ specific ∷ 558 ∷ 5 ∷ (texts ++ blanks 3)) ∷ [])

-- Point 25, reading: 1, then 2, then the file, last 16 with the rows needed. Each refusal returns no row, no warning and C's header.
pub answers :
    (read_answer 1 today (file K) (blanks 576) ≡ answer 0 0 0 3 0 0 (header K))
    × (read_answer 3 today (group C "2 19-19 5002 311217").file (blanks 600) ≡ answer 0 0 0 3 2 0 no_header)
    × (read_answer 4 today (file E) (blanks 575) ≡ answer 16 0 0 0 0 3 no_header)
    × (read_answer 2 today (item S "706").file [] ≡ answer 5 4 98 0 0 0 no_header)
    × (read_answer 6 20180229 [] [] ≡ answer 1 0 0 0 0 0 no_header)
    × (read_answer 0 today (file K) (blanks 576) ≡ answer 1 0 0 0 0 0 no_header)
    × (read_answer 1 20180229 [] [] ≡ answer 2 0 0 0 0 0 no_header)
    × (read_answer 1 21000101 (file K) (blanks 576) ≡ answer 2 0 0 0 0 0 no_header)
unfolding rewrites
answers = (refl, refl, refl, refl, refl, refl, refl, refl)

-- The rows that reading leaves: places of texts count from the file's first byte. A refusal, 16 too, leaves what was lent as it was.
pub rows_left :
    (rows_after 3 today (item C "705 5001 42 03000558 17 AV:led||ryby NP:Jan").file (blanks 576) ≡ left (account 19 19) nobody 17 (71 ∷ 3 ∷ 0 ∷ 0 ∷ 76 ∷ 4 ∷ 0 ∷ 0 ∷ 84 ∷ 3 ∷ []))
    × (rows_after 3 today (item C "705 5001 42 03000558 led|ryby").file (blanks 576) ≡ left (account 19 19) nobody 0 (65 ∷ 3 ∷ 69 ∷ 4 ∷ blanks 6))
    × (rows_after 2 today (item S "705 5001 42 03000558  led").file (blanks 576) ≡ left (account 19 19) nobody 0 (120 ∷ 3 ∷ blanks 8))
    × (rows_after 4 today (single E "2  5001 020118").file (blanks 576) ≡ left nobody (account 19 19) 0 (blanks 10))
    × (rows_after 1 today (file K) (blanks 576 ++ (7 ∷ [])) ≡ left (account 19 19) nobody 0 (blanks 10) ++ (7 ∷ []))
    × (rows_after 1 today (file K) (blanks 575) ≡ blanks 575)
    × (rows_after 1 today (item K "706").file (7 ∷ []) ≡ 7 ∷ [])
unfolding rewrites
rows_left = (refl, refl, refl, refl, refl, refl, refl)

-- Point 32, the rewriting program: its input's first byte alone is 1, so is no input; the rest of that line is 2. The line may end in any way or lack its end.
-- More than 8,192 bytes are 16, before the file is looked at.
pub runs :
    (rewriting [] ≡ bytes "refused 1 line 0 byte 0\n")
    × (rewriting (bytes "k 290223") ≡ bytes "refused 1 line 0 byte 0\n")
    × (rewriting (bytes "K") ≡ bytes "refused 2 line 0 byte 0\n")
    × (rewriting (bytes "K010118") ≡ bytes "refused 2 line 0 byte 0\n")
    × (rewriting (bytes "K 290223") ≡ bytes "refused 2 line 0 byte 0\n")
    × (rewriting (bytes "K 010118 \nUHL1") ≡ bytes "refused 2 line 0 byte 0\n")
    × (rewriting (bytes "K 010118") ≡ bytes "refused 3 line 1 byte 0\n")
    × (rewriting (bytes "C 010118\r\nUHL1") ≡ bytes "refused 3 line 2 byte 4\n")
    × (rewriting (bytes "C 010118\rUHL1\n706") ≡ bytes "refused 3 line 2 byte 5\n")
    × (rewriting (bytes "C 010118\n\rUHL1") ≡ bytes "refused 3 line 1 byte 0\n")
    × (rewriting (bytes "C 010118\nx" ++ replicate 8182 120) ≡ bytes "refused 3 line 1 byte 0\n")
    × (rewriting (bytes "C 010118\nx" ++ replicate 8183 120) ≡ bytes "refused 16 line 0 byte 0\n")
    × (rewriting (bytes "C 0x0118\nx" ++ replicate 8183 120) ≡ bytes "refused 2 line 0 byte 0\n")
unfolding rewrites
runs = (refl, refl, refl, refl, refl, refl, refl, refl, refl, refl, refl, refl, refl)
