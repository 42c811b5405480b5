-- Amounts of document 01, "Cases at the edges", computed. Assumes nothing.
use mathlib.Core.Path.{◌≡◌, refl}
use mathlib.Core.Bool.{true, false}
use mathlib.Core.List.{[], ◌∷◌}
use Rattle.base.specs.Pick.{pick}
use Rattle.base.specs.Seek.{seek, starts}
use Rattle.paper.specs.Read.{value, fault, given}
use Rattle.paper.specs.Bytes.{is_digit}
use Rattle.paper.specs.Numerals.{digits, digits_on}
use Rattle.paper.specs.Amounts.{with_comma, read_amount}

-- `3500,00`, `,50` and `3500,0`, where a comma may stand; and the first where none may
pub edge-amounts : (read_amount true 14 (51 ∷ 53 ∷ 48 ∷ 48 ∷ 44 ∷ 48 ∷ 48 ∷ []) ≡ value 350000)
    × (read_amount true 14 (44 ∷ 53 ∷ 48 ∷ []) ≡ fault 4)
    × (read_amount true 14 (51 ∷ 53 ∷ 48 ∷ 48 ∷ 44 ∷ 48 ∷ []) ≡ fault 4)
    × (read_amount false 14 (51 ∷ 53 ∷ 48 ∷ 48 ∷ 44 ∷ 48 ∷ 48 ∷ []) ≡ fault 4)
unfolding read_amount with_comma digits digits_on given is_digit seek starts pick
edge-amounts = (refl, refl, refl, refl)
