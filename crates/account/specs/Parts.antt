-- The last step of an account of two parts. Document 01, "Accounts". Assumes nothing.
use Rattle.std.specs.Prelude.{List, ℕ}
use Rattle.paper.specs.Read.{Field, given}
use Rattle.paper.specs.Numerals.{digits}
use Rattle.paper.specs.Accounts.{Account, ruled}

-- an account whose prefix is known, and whose base has `least` to 10 digits: the last step of `two_parts`, and with prefix 0 `one_part`
unfoldable pub with_base : ℕ → ℕ → List ℕ → Field Account
with_base least prefix b = given (digits least 10 b) λ base. ruled prefix base
