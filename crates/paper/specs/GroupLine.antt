-- The line that begins a group. Document 01, "Lines", `2 TOTAL DATE`. Assumes nothing.
use Rattle.std.specs.Prelude.{ℕ, suc, Bool, true, List, [], ◌∷◌, ◌++◌, eqb, leb, drop}
use Rattle.base.specs.Pick.{pick}
use Rattle.sheet.specs.declared.Sheet.{Sheet}
use Rattle.paper.specs.Warnings.{past_day, notices}
use Rattle.paper.specs.Numerals.{decimal}
use Rattle.paper.specs.Days.{read_due, due_warnings, spell_day}
use Rattle.paper.specs.Accounts.{Account, nobody, is_nobody, read_payer, spell_account}
use Rattle.paper.specs.Amounts.{read_total}
use Rattle.paper.specs.Entries.{group, Listed, said, total_at, field, gap, line_end}

-- how many spaces a line has
unfoldable pub space_count : List ℕ → ℕ
space_count [] = 0
space_count (x ∷ s) = pick (eqb x 32) (suc (space_count s)) (space_count s)

-- S and E always have the payer's field; on K, C and P it is missing exactly when the line has fewer than three spaces
unfoldable pub has_payer : Bool → List ℕ → Bool
has_payer always s = pick always true (leb 3 (space_count s))

-- TOTAL, at offset `at`, and DATE, which may be judged here and warned of; the total's place is kept for refusal 10
unfoldable pub total_and_date : Sheet → ℕ → Bool → Account → ℕ → List ℕ → Listed
total_and_date sh today here payer at s =
    field (read_total sh.comma) at s λ total a1 s1.
    gap a1 s1 λ a2 s2.
    field (read_due sh.longdate here sh.early sh.ahead today) a2 s2 λ date a3 s3.
    line_end a3 s3 (said (group payer total date) (notices past_day a2 (due_warnings here sh.warnpast today date)) (total_at at))

-- "Lines": `2 TOTAL DATE`, or with the payer's account before TOTAL
unfoldable pub read_group : Sheet → ℕ → Bool → List ℕ → Listed
read_group sh today here s =
    pick (has_payer sh.emptypayer s)
    (field (read_payer sh.emptypayer sh.zeropayer sh.joined sh.basemin) 2 (drop 2 s) λ payer a1 s1.
    gap a1 s1 λ a2 s2.
    total_and_date sh today here payer a2 s2)
    (total_and_date sh today here nobody 2 (drop 2 s))

-- "Canonical spelling": single groups have two spaces on S and E, and no account on K, C and P
unfoldable pub spell_payer : Bool → Account → List ℕ
spell_payer always a = pick (is_nobody a) (pick always (32 ∷ []) []) (spell_account a ++ (32 ∷ []))

-- "Canonical spelling": TOTAL in plain digits, DATE as DDMMRR
unfoldable pub spell_group : Sheet → Account → ℕ → ℕ → List ℕ
spell_group sh payer total date = 50 ∷ 32 ∷ (spell_payer sh.emptypayer payer ++ (decimal total ++ (32 ∷ spell_day date)))
