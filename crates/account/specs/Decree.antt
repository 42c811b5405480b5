-- The rule of an account's digits as decree 169/2011 has it, by ten weights, and where these come from. No contract and no demand names
-- what stands here: that it is the rule of `Accounts` is a theorem. Document 01, "Accounts"; document 02, W-203. Assumes nothing.
use Rattle.std.specs.Prelude.{ℕ, zero, suc, ◌+◌, ◌*◌, ◌/◌, ◌%◌, ◌^◌, Bool, false, List, [], ◌∷◌, eqb, leb}
use Rattle.base.specs.Pick.{pick}
use Rattle.paper.specs.Accounts.{non_zero}

-- the decree's weights, from the right digit on
abbrev pub decree : List ℕ
decree = 1 ∷ 2 ∷ 4 ∷ 8 ∷ 5 ∷ 10 ∷ 9 ∷ 7 ∷ 3 ∷ 6 ∷ []

-- the digits of n from the right, each times its weight, added up
unfoldable pub weighted : List ℕ → ℕ → ℕ
weighted [] n = 0
weighted (w ∷ ws) n = w * (n % 10) + weighted ws (n / 10)

-- both sums divide by 11, and the base has at least two digits that are not zero
unfoldable pub decreed : ℕ → ℕ → Bool
decreed prefix base =
    pick (eqb (weighted decree prefix % 11) 0)
    (pick (eqb (weighted decree base % 11) 0) (leb 2 (non_zero 10 base)) false)
    false

-- the rests by 11 of k powers of 2, the first of which is 2 ^ j
unfoldable pub powers : ℕ → ℕ → List ℕ
powers zero j = []
powers (suc k) j = (2 ^ j % 11) ∷ powers k (suc j)
