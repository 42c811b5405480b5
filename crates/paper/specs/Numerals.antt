-- Numbers in decimal digits: how they are read, and their one spelling. Document 01, "Lines" and "Canonical spelling". Assumes nothing.
use Rattle.std.specs.Prelude.{ℕ, zero, suc, ◌+◌, ◌-◌, ◌*◌, ◌/◌, ◌%◌, List, [], ◌∷◌, ltb, length}
use Rattle.base.specs.Pick.{pick}
use Rattle.paper.specs.Read.{Field, value, fault}
use Rattle.paper.specs.Bytes.{is_digit}

-- the digits of s, read on from the number v; 4 at any other byte
unfoldable pub digits_on : ℕ → List ℕ → Field ℕ
digits_on v [] = value v
digits_on v (x ∷ s) = pick (is_digit x) (digits_on (v * 10 + (x - 48)) s) (fault 4)

-- a number of `least` to `most` digits, and nothing else: 4 otherwise
unfoldable pub digits : ℕ → ℕ → List ℕ → Field ℕ
digits least most s = pick (ltb (length s) least) (fault 4) (pick (ltb most (length s)) (fault 4) (digits_on 0 s))

-- the digits of n, at most k of them, in front of s
unfoldable pub dec_on : ℕ → ℕ → List ℕ → List ℕ
dec_on zero n s = s
dec_on (suc k) n s = pick (ltb n 10) ((48 + n) ∷ s) (dec_on k (n / 10) ((48 + n % 10) ∷ s))

-- n with no needless zeros; n is below 10 ^ 20, as every 64-bit number is
unfoldable pub decimal : ℕ → List ℕ
decimal n = dec_on 20 n []

-- the last k digits of n, zeros in front, before s
unfoldable pub fixed_on : ℕ → ℕ → List ℕ → List ℕ
fixed_on zero n s = s
fixed_on (suc k) n s = fixed_on k (n / 10) ((48 + n % 10) ∷ s)

-- n in exactly k digits
unfoldable pub fixed : ℕ → ℕ → List ℕ
fixed k n = fixed_on k n []
