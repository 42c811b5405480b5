-- Zeros in a field, byte after byte. Assumes nothing.
use Rattle.std.proofs.Common.{◌≡◌, ℕ, eqb, List, [], ◌∷◌, refl}
use Rattle.std.specs.List.{list_all}
use Rattle.base.specs.Pick.{pick}
use Rattle.base.specs.Seek.{all}
use Rattle.base.proofs.Cases.{by-test}
use Rattle.numeral.specs.Zero.{is_zero}

-- the library's test of every byte is `all`
pub all-listed : (f : List ℕ) → list_all (λ b. eqb b 48) f ≡ all is_zero f
unfolding all pick
all-listed [] = refl
all-listed (x ∷ f) = by-test (eqb x 48) (λ e. simp (e, all-listed f)) (λ e. simp e)
