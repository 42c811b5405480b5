-- Numbers with a sign, as balances and turnovers are: in an equation, in a record's field, in a row's word. Document 02, W-204. Assumes nothing.
use Rattle.std.specs.Prelude.{ℕ, ◌+◌, ◌-◌, ◌%◌, ◌<◌, ◌≤◌, ◌≡◌, Bool, true, false, List, [], ◌∷◌, ◌++◌, eqb, ltb}
use Rattle.base.specs.Pick.{pick}
use Rattle.paper.specs.Read.{Field, value, fault}
use Rattle.paper.specs.Numerals.{digits, fixed}
use Rattle.paper.specs.Batch.{most14}
use Rattle.paper.specs.Entries.{Said, on_field}
use Rattle.gpc.specs.Parts.{slice, or51}

-- a size, and whether it is below nothing
pub record Signed : Type 0 where
  pub minus : Bool
  pub size : ℕ

-- a sign and a size as they are read: minus before zero is zero
unfoldable pub signed : Bool → ℕ → Signed
signed minus n = record { minus = pick (eqb n 0) false minus; size = n }

-- what fourteen digits and a sign can say: no minus zero
pub record Fourteen (x : Signed) : Type 0 where
  pub small : x.size ≤ most14
  pub some : x.minus ≡ true → 0 < x.size

-- ---- in an equation

-- is it `up - down`?
unfoldable pub is_difference : ℕ → ℕ → Signed → Bool
is_difference up down x = pick x.minus (eqb (up + x.size) down) (eqb up (x.size + down))

-- what it adds to its own side of an equation
unfoldable pub above : Signed → ℕ
above x = pick x.minus 0 x.size

-- .. and to the other side, where its minus carries it over
unfoldable pub below : Signed → ℕ
below x = pick x.minus x.size 0

-- the left side of a + b = c + d, with what is carried over to it
unfoldable pub side : Signed → Signed → Signed → Signed → ℕ
side a b c d = above a + above b + (below c + below d)

-- ---- in a field: fourteen digits, and the sign behind them as a field of its own

-- exactly k digits: 51 otherwise
unfoldable pub read_digits : ℕ → List ℕ → Field ℕ
read_digits k s = or51 (digits k k s)

-- the byte that says plus: `+` for a balance
abbrev pub balance_plus : ℕ
balance_plus = 43

-- .. and `0` for a turnover
abbrev pub turnover_plus : ℕ
turnover_plus = 48

-- is there a minus, or the byte that says plus? 51 otherwise
unfoldable pub read_minus : ℕ → List ℕ → Field Bool
read_minus plus [] = fault 51
read_minus plus (x ∷ s) = pick (eqb x 45) (value true) (pick (eqb x plus) (value false) (fault 51))

-- the fifteen bytes from a place on: the digits are tested before the sign, and each is refused at its own first byte
unfoldable pub on_signed : {B : Type 0} → ℕ → ℕ → List ℕ → (Signed → Said B) → Said B
on_signed plus at s k =
    on_field at (read_digits 14 (slice at 14 s)) λ n.
    on_field (at + 14) (read_minus plus (slice (at + 14) 1 s)) λ minus.
    k (signed minus n)

-- its one spelling; zero is no minus, so it has the byte that says plus
unfoldable pub spell_signed : ℕ → Signed → List ℕ
spell_signed plus x = fixed 14 x.size ++ (pick x.minus 45 plus ∷ [])

-- ---- in a word: two's complement

-- n taken off nothing, modulo 2 ^ 64
unfoldable pub negative : ℕ → ℕ
negative n = (18446744073709551616 - n) % 18446744073709551616

-- as a word of a row
unfoldable pub signed_word : Signed → ℕ
signed_word x = pick x.minus (negative x.size) x.size

-- what a word of a row says; none says minus zero
unfoldable pub word_signed : ℕ → Signed
word_signed w = pick (ltb w 9223372036854775808) (record { minus = false; size = w }) (signed true (negative w))
