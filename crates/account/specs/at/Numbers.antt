-- The numbers that an account's field spells. Document 01, "Accounts". Assumes nothing.
use Rattle.std.specs.Prelude.{ℕ, ◌+◌, ◌/◌, ◌%◌, List, ltb, length, drop}
use Rattle.base.specs.Pick.{pick}
use Rattle.base.specs.Seek.{seek, before}
use Rattle.paper.specs.Read.{Field, value, given}
use Rattle.paper.specs.Bytes.{dash}
use Rattle.paper.specs.Numerals.{digits}
use Rattle.paper.specs.Accounts.{Account, account}

-- A prefix, a dash and a base; or digits alone, the last ten of which are the base. Which rules they keep, and where they may stand, is not asked.
unfoldable pub prefix_and_base : List ℕ → Field Account
prefix_and_base s =
    pick (ltb (seek dash s) (length s))
    (given (digits 1 6 (before dash s)) λ prefix. given (digits 0 10 (drop (seek dash s + 1) s)) λ base. value (account prefix base))
    (given (digits 0 17 s) λ n. value (account (n / 10000000000) (n % 10000000000)))
