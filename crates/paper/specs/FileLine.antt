-- The line that begins an account file. Document 01, "Lines", `1 KIND NUMBER BANK`. Assumes nothing.
use Rattle.std.specs.Prelude.{ℕ, ◌/◌, Bool, true, false, List, [], ◌∷◌, ◌++◌, eqb, leb, drop}
use Rattle.base.specs.Pick.{pick}
use Rattle.sheet.specs.declared.Sheet.{Sheet}
use Rattle.sheet.specs.Sheets.{kind_allowed, bank_allowed}
use Rattle.paper.specs.Read.{Field, value, fault, given}
use Rattle.paper.specs.Numerals.{digits, fixed}
use Rattle.paper.specs.Batch.{Header}
use Rattle.paper.specs.Entries.{file, Listed, plain, field, gap, line_end}

-- is it one of these?
unfoldable pub member : ℕ → List ℕ → Bool
member n [] = false
member n (m ∷ ms) = pick (eqb n m) true (member n ms)

-- the first three of a number's six digits
abbrev pub series : ℕ → ℕ
series n = n / 1000

-- Which refusal does an account file's number get? K (`interval`): 9 where its first three digits do not lie in the header's interval, or are
-- those of an earlier account file (`seen`). 0 is none.
unfoldable pub number_fault : Bool → Header → List ℕ → ℕ → ℕ
number_fault interval h seen n =
    pick interval (pick (leb h.from (series n)) (pick (leb (series n) h.to) (pick (member (series n) seen) 9 0) 9) 9) 0

-- is it allowed?
unfoldable pub number_allowed : Bool → Header → List ℕ → ℕ → Bool
number_allowed interval h seen n = eqb (number_fault interval h seen n) 0

-- four digits: 7 for a kind that is not on the sheet
unfoldable pub read_kind : Sheet → List ℕ → Field ℕ
read_kind sh s = given (digits 4 4 s) λ k. pick (kind_allowed sh k) (value k) (fault 7)

-- six digits: the refusal that the test gives the number, if it gives one
unfoldable pub read_number : (ℕ → ℕ) → List ℕ → Field ℕ
read_number test s = given (digits 6 6 s) λ n. pick (eqb (test n) 0) (value n) (fault (test n))

-- four digits: 8 for another bank than the sheet's
unfoldable pub read_code : Sheet → List ℕ → Field ℕ
read_code sh s = given (digits 4 4 s) λ b. pick (bank_allowed sh b) (value b) (fault 8)

-- "Lines": `1 KIND NUMBER BANK`, and nothing behind it
unfoldable pub read_file : Sheet → (ℕ → ℕ) → List ℕ → Listed
read_file sh test s =
    field (read_kind sh) 2 (drop 2 s) λ kind a1 s1.
    gap a1 s1 λ a2 s2.
    field (read_number test) a2 s2 λ number a3 s3.
    gap a3 s3 λ a4 s4.
    field (read_code sh) a4 s4 λ bank a5 s5.
    line_end a5 s5 (plain (file kind number))

-- "Canonical spelling": BANK is the sheet's
unfoldable pub spell_file : Sheet → ℕ → ℕ → List ℕ
spell_file sh kind number = 49 ∷ 32 ∷ (fixed 4 kind ++ (32 ∷ (fixed 6 number ++ (32 ∷ fixed 4 sh.bank))))
