-- How many digits, counted, where the sheet answers how many: m is what it answers. Assumes nothing.
use mathlib.Core.Path.{◌≡◌}
use mathlib.Core.List.{List}
use Prim.Native.Nat.{ℕ}
use Rattle.numeral.specs.counted.Counted.{Counted}
use Rattle.sentences.specs.Allowed.{some_digits}

module _ (a m n : ℕ) (e : m ≡ n) {o o1 : List ℕ} {at r : ℕ} where
  pub least-digits : Counted o at (some_digits m a) o1 r → Counted o at (some_digits n a) o1 r
  least-digits w = rw e at w

  pub most-digits : Counted o at (some_digits a m) o1 r → Counted o at (some_digits a n) o1 r
  most-digits w = rw e at w
