-- Bank fields of document 01, "Cases at the edges", computed. Assumes nothing.
use mathlib.Core.Path.{◌≡◌, refl}
use mathlib.Core.Bool.{true, false}
use mathlib.Core.List.{[], ◌∷◌}
use Rattle.base.specs.Pick.{pick}
use Rattle.paper.specs.Read.{value, fault, given}
use Rattle.paper.specs.Bytes.{is_digit}
use Rattle.paper.specs.Numerals.{digits, digits_on}
use Rattle.paper.specs.BankField.{read_bank, ninth}

-- `0781000558` and `0181000558` where the field holds the priority; and the first where it does not
pub edge-banks : (read_bank true (48 ∷ 55 ∷ 56 ∷ 49 ∷ 48 ∷ 48 ∷ 48 ∷ 53 ∷ 53 ∷ 56 ∷ []) ≡ value (record { bank = 8100; constant = 558; priority = 7; warnings = 0 }))
    × (read_bank true (48 ∷ 49 ∷ 56 ∷ 49 ∷ 48 ∷ 48 ∷ 48 ∷ 53 ∷ 53 ∷ 56 ∷ []) ≡ value (record { bank = 8100; constant = 558; priority = 5; warnings = 1 }))
    × (read_bank false (48 ∷ 55 ∷ 56 ∷ 49 ∷ 48 ∷ 48 ∷ 48 ∷ 53 ∷ 53 ∷ 56 ∷ []) ≡ fault 13)
unfolding read_bank ninth digits digits_on given is_digit pick
edge-banks = (refl, refl, refl)
