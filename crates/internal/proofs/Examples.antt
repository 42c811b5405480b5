-- Worked accounts: 19-19 of W-204, and both of source document 000's sample, computed. Assumes nothing.
use mathlib.Core.Path.{◌≡◌, refl}
use Rattle.base.specs.Pick.{pick}
use Rattle.paper.specs.Read.{value, fault, given}
use Rattle.paper.specs.Bytes.{bytes, is_digit}
use Rattle.paper.specs.Numerals.{digits, digits_on, fixed, fixed_on}
use Rattle.paper.specs.Accounts.{account}
use Rattle.gpc.specs.Parts.{or51}
use Rattle.gpc.specs.Internal.{taken, internal, edited, account_of, read_internal, spell_internal}

-- 19-19 is 9010000000000019, digit by digit, and back
pub nineteen-moved : (internal (bytes "0000190000000019") ≡ bytes "9010000000000019") × (edited (bytes "9010000000000019") ≡ bytes "0000190000000019")
unfolding internal edited taken
nineteen-moved = (refl, refl)

-- as accounts: read
pub read : (read_internal (bytes "9010000000000019") ≡ value (account 19 19))
    × (read_internal (bytes "7258226710500005") ≡ value (account 500005 2267180257))
    × (read_internal (bytes "7234110730000000") ≡ value (account 0 1107340237))
unfolding read_internal or51 account_of edited taken digits digits_on given is_digit pick
read = (refl, refl, refl)

-- and spelled
pub spelled : (spell_internal (account 19 19) ≡ bytes "9010000000000019")
    × (spell_internal (account 500005 2267180257) ≡ bytes "7258226710500005")
    × (spell_internal (account 0 1107340237) ≡ bytes "7234110730000000")
unfolding spell_internal internal taken fixed fixed_on
spelled = (refl, refl, refl)

-- a digit too few, one too many, and a byte that is none
pub refused : (read_internal (bytes "901000000000001") ≡ fault 51)
    × (read_internal (bytes "90100000000000190") ≡ fault 51)
    × (read_internal (bytes "901000000000-019") ≡ fault 51)
unfolding read_internal or51 account_of edited taken digits digits_on given is_digit pick
refused = (refl, refl, refl)
