-- Accounts. Document 01, "Accounts"; their digits as document 02, W-203, works them. Assumes nothing.
use Rattle.std.specs.Prelude.{ℕ, zero, suc, ◌+◌, ◌-◌, ◌*◌, ◌/◌, ◌%◌, Bool, false, List, ◌∷◌, ◌++◌, eqb, ltb, leb, length, take, drop}
use Rattle.base.specs.Pick.{pick}
use Rattle.base.specs.Seek.{all, seek, before}
use Rattle.paper.specs.Read.{Field, value, fault, given}
use Rattle.paper.specs.Bytes.{dash, null}
use Rattle.paper.specs.Numerals.{digits, decimal}

-- "Accounts": a prefix and a base, as numbers
pub record Account : Type 0 where
  pub prefix : ℕ
  pub base : ℕ

-- an account of these two
abbrev pub account : ℕ → ℕ → Account
account p b = record { prefix = p; base = b }

-- The last k digits of n, from the left: twice what there is, plus the digit, and of that the rest by 11.
unfoldable pub rest : ℕ → ℕ → ℕ
rest zero n = 0
rest (suc k) n = (2 * rest k (n / 10) + n % 10) % 11

-- how many of the last k digits of n are not zero
unfoldable pub non_zero : ℕ → ℕ → ℕ
non_zero zero n = 0
non_zero (suc k) n = pick (eqb (n % 10) 0) 0 1 + non_zero k (n / 10)

-- nothing is left of either, and the base has at least two digits that are not zero
unfoldable pub account_ok : ℕ → ℕ → Bool
account_ok prefix base =
    pick (eqb (rest 10 prefix) 0)
    (pick (eqb (rest 10 base) 0) (leb 2 (non_zero 10 base)) false)
    false

-- 5 where that is broken
unfoldable pub ruled : ℕ → ℕ → Field Account
ruled p b = pick (account_ok p b) (value (account p b)) (fault 5)

-- a prefix of 1 to 6 digits, and a base of `least` to 10
unfoldable pub two_parts : ℕ → List ℕ → List ℕ → Field Account
two_parts least p b = given (digits 1 6 p) λ prefix. given (digits least 10 b) λ base. ruled prefix base

-- a base alone
unfoldable pub one_part : ℕ → List ℕ → Field Account
one_part least b = given (digits least 10 b) λ base. ruled 0 base

-- A prefix, a dash and a base; or a base alone, of two digits or more on K (`least`). Where a sheet takes it (`joined`: C, P), also 11 to
-- 16 digits with no dash, the last ten being the base.
unfoldable pub read_account : Bool → ℕ → List ℕ → Field Account
read_account joined least s =
    pick (ltb (seek dash s) (length s))
    (two_parts least (before dash s) (drop (seek dash s + 1) s))
    (pick (pick joined (ltb 10 (length s)) false)
    (two_parts 10 (take (length s - 10) s) (drop (length s - 10) s))
    (one_part least s))

-- "The batch": a prefix below 10 ^ 6 and a base below 10 ^ 10 that keep the rule
unfoldable pub account_proper : Account → Bool
account_proper a = pick (ltb a.prefix 1000000) (pick (ltb a.base 10000000000) (account_ok a.prefix a.base) false) false

-- "Canonical spelling": prefix-base, or the base alone if the prefix is 0
unfoldable pub spell_account : Account → List ℕ
spell_account a = pick (eqb a.prefix 0) (decimal a.base) (decimal a.prefix ++ (45 ∷ decimal a.base))

-- No account: a group without a payer is single. No valid account has prefix and base 0.
abbrev pub nobody : Account
nobody = account 0 0

-- is it no account?
unfoldable pub is_nobody : Account → Bool
is_nobody a = pick (eqb a.prefix 0) (eqb a.base 0) false

-- 1 to `most` zeros
unfoldable pub zeros : ℕ → List ℕ → Bool
zeros most s = pick (ltb (length s) 1) false (pick (ltb most (length s)) false (all (λ x. eqb x 48) s))

-- "Lines", group: only zeros, 1 to 17 of them, or 1 to 6, a dash, 1 to 10
unfoldable pub only_zeros : List ℕ → Bool
only_zeros s =
    pick (ltb (seek dash s) (length s))
    (pick (zeros 6 (before dash s)) (zeros 10 (drop (seek dash s + 1) s)) false)
    (zeros 17 s)

-- A group's payer, where its field stands: nobody if the field is empty (S, E: `empty`) or has only zeros (K, E: `allzero`), else an account.
unfoldable pub read_payer : Bool → Bool → Bool → ℕ → List ℕ → Field Account
read_payer empty allzero joined least s =
    pick (pick empty (null s) false) (value nobody)
    (pick (pick allzero (only_zeros s) false) (value nobody) (read_account joined least s))
