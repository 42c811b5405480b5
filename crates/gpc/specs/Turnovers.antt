-- What a statement's movements add up to, and the rule of its balance. Document 02, W-204. Assumes nothing.
use Rattle.std.specs.Prelude.{ℕ, ◌+◌, Bool, true, List, [], ◌∷◌, eqb}
use Rattle.base.specs.Pick.{pick}
use Rattle.gpc.specs.Signed.{Signed, is_difference, side}

-- a movement: its posting code, 1 debit, 2 credit, 4 reversed debit, 5 reversed credit, and its amount in haléř
pub record Moved : Type 0 where
  pub code : ℕ
  pub amount : ℕ

-- these two
abbrev pub moved : ℕ → ℕ → Moved
moved c n = record { code = c; amount = n }

-- is it one of the four codes?
unfoldable pub is_code : ℕ → Bool
is_code c = pick (eqb c 1) true (pick (eqb c 2) true (pick (eqb c 4) true (eqb c 5)))

-- the most that an amount's twelve digits say
abbrev pub most12 : ℕ
most12 = 999999999999

-- what a movement adds to the sum of a code
unfoldable pub part : ℕ → Moved → ℕ
part c m = pick (eqb m.code c) m.amount 0

-- the sum of the amounts of a code
unfoldable pub total : ℕ → List Moved → ℕ
total c [] = 0
total c (m ∷ ms) = part c m + total c ms

-- is this the debit turnover, the sum of code 1 less code 4?
unfoldable pub is_debit : List Moved → Signed → Bool
is_debit ms x = is_difference (total 1 ms) (total 4 ms) x

-- is this the credit turnover, code 2 less code 5?
unfoldable pub is_credit : List Moved → Signed → Bool
is_credit ms x = is_difference (total 2 ms) (total 5 ms) x

-- new balance = old − debit + credit: new + debit = old + credit, each minus carried over to the other side
unfoldable pub balanced : Signed → Signed → Signed → Signed → Bool
balanced old new debit credit = eqb (side new debit old credit) (side old credit new debit)
