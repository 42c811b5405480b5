-- Bytes that an account's field is tested for. Assumes nothing.
use Rattle.std.specs.Prelude.{ℕ, Bool, true, eqb}
use Rattle.base.specs.Pick.{pick}
use Rattle.paper.specs.Bytes.{is_digit}

-- a digit or a dash: what an account is spelled with
unfoldable pub is_account_byte : ℕ → Bool
is_account_byte x = pick (is_digit x) true (eqb x 45)
