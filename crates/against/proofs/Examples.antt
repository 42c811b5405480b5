-- Worked examples of document 02, W-207: files of K judged against a register on 1 January 2018, computed over the definitions. Assumes nothing.
use Prim.Native.Nat.{ℕ}
use Prim.Native.String.{String}
use mathlib.Core.Path.{◌≡◌, refl}
use mathlib.Core.List.{List, [], ◌∷◌, ◌++◌}
use Rattle.sheet.specs.Sheets.{sheet_k}
use Rattle.paper.specs.Bytes.{bytes}
use Rattle.paper.specs.FileLine.{member}
use Rattle.paper.specs.Judge.{Answer, Refused}
use Rattle.cases.specs.Asked.{today, judged}
use Rattle.register.specs.Marks.{none}
use Rattle.register.specs.Register.{Register, malformed, of, fits, used}
use Rattle.against.specs.Against.{unused_test, day_of, is_other, read_first_on, read_on, line_on, step_on, run_on, judge_on}

-- a register of 1 January 2018 in which these numbers are marked
abbrev pub day : List ℕ → Register
day numbers = of 20180101 (λ n. member n numbers)

-- a file of K: the first line of that day with the interval 001 to 002, and these lines
abbrev pub filed : List ℕ → List ℕ
filed s = bytes "UHL1010118Firma               1234567890001002000000000000\n" ++ s

-- an account file of this number and bank, with one payment
abbrev pub account : String → String → List ℕ
account number bank = bytes "1 1501 " ++ (bytes number ++ (bytes " " ++ (bytes bank ++ bytes "\n2 19-19 300 020118\n705 300 1 03000558\n3 +\n5 +\n")))

unfoldable pub against : Register → List ℕ → Answer
unfolding judged fits used none unused_test day_of is_other read_first_on read_on line_on step_on run_on judge_on
against reg f = judge_on reg sheet_k today f

-- A number that is not used is accepted as ever; one that is, is 22 at its place, whatever its last three digits are.
pub used-today :
    (against (day []) (filed (account "001001" "8100")) ≡ judged sheet_k (filed (account "001001" "8100")))
    × (against (day (2 ∷ 999 ∷ [])) (filed (account "001001" "8100")) ≡ judged sheet_k (filed (account "001001" "8100")))
    × (against (day (1 ∷ [])) (filed (account "001001" "8100")) ≡ Refused 22 2 66)
    × (against (day (1 ∷ [])) (filed (account "001999" "8100")) ≡ Refused 22 2 66)
    × (against (day (1 ∷ [])) (filed (account "002001" "8100")) ≡ judged sheet_k (filed (account "002001" "8100")))
unfolding against
used-today = (refl, refl, refl, refl, refl)

-- 4 and 9 come before 22, and 22 before BANK's 8: a used number outside the interval is 9, and one that comes twice is 22 at its first place.
pub in-order :
    (against (day (1 ∷ [])) (filed (account "00100x" "8100")) ≡ Refused 4 2 66)
    × (against (day (3 ∷ [])) (filed (account "003001" "8100")) ≡ Refused 9 2 66)
    × (against (day (1 ∷ [])) (filed (account "001001" "0300")) ≡ Refused 22 2 66)
    × (against (day []) (filed (account "001001" "0300")) ≡ Refused 8 2 73)
    × (against (day []) (filed (account "001001" "8100" ++ account "001002" "8100")) ≡ Refused 9 7 131)
    × (against (day (1 ∷ [])) (filed (account "001001" "8100" ++ account "001002" "8100")) ≡ Refused 22 2 66)
    × (against (day (2 ∷ [])) (filed (account "001001" "8100" ++ account "002002" "8100")) ≡ Refused 22 7 131)
unfolding against
in-order = (refl, refl, refl, refl, refl, refl, refl)

-- 23 stands at the date, for another day and for a malformed register, before all that follows; a date that cannot be read has its own refusal, and a file that
-- does not begin with a first line is 3.
pub other-day :
    (against (of 20180102 none) (filed (account "001001" "8100")) ≡ Refused 23 1 4)
    × (against malformed (filed (account "001001" "8100")) ≡ Refused 23 1 4)
    × (against malformed (bytes "UHL1010118") ≡ Refused 23 1 4)
    × (against malformed (bytes "UHL101011") ≡ Refused 4 1 4)
    × (against malformed (bytes "UHL1320118Firma") ≡ Refused 11 1 4)
    × (against malformed (bytes "1 1501 001001 8100") ≡ Refused 3 1 0)
    × (against malformed [] ≡ Refused 3 1 0)
    × (against (day []) (bytes "UHL1010118Firma") ≡ Refused 4 1 10)
unfolding against
other-day = (refl, refl, refl, refl, refl, refl, refl, refl)
