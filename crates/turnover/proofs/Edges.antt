-- Fields and words of a statement at their edges, computed. Document 02, W-204. Assumes nothing.
use Rattle.std.proofs.Common.{◌≡◌, true, false, refl}
use Rattle.base.specs.Pick.{pick}
use Rattle.paper.specs.Bytes.{bytes, is_digit}
use Rattle.paper.specs.Numerals.{digits, digits_on, fixed, fixed_on}
use Rattle.paper.specs.Entries.{got, no, on_field}
use Rattle.gpc.specs.Parts.{or51}
use Rattle.gpc.specs.Signed.{Signed, signed, balance_plus, turnover_plus, read_digits, read_minus, on_signed, spell_signed, negative, signed_word, word_signed}
use Rattle.turnover.proofs.signed.Signs.{number}

-- fifteen bytes as a record's field, which here stands at 0: digits, and the sign at 14. Zero has two spellings, of which the one with plus is
-- written; `0` is no sign of a balance and `+` none of a turnover, each refused at the sign; the digits are refused first
pub edge-fields : (on_signed balance_plus 0 (bytes "00000000001234-") got ≡ got (number true 1234))
    × (on_signed balance_plus 0 (bytes "00000000000000-") got ≡ got (number false 0))
    × (spell_signed balance_plus (number false 0) ≡ bytes "00000000000000+")
    × (spell_signed turnover_plus (number false 0) ≡ bytes "000000000000000")
    × (spell_signed turnover_plus (number true 1234) ≡ bytes "00000000001234-")
    × (on_signed {B = Signed} balance_plus 0 (bytes "000000000012340") got ≡ no 51 14)
    × (on_signed {B = Signed} turnover_plus 0 (bytes "00000000001234+") got ≡ no 51 14)
    × (on_signed {B = Signed} turnover_plus 0 (bytes "0000000000 234+") got ≡ no 51 0)
unfolding on_signed read_digits or51 read_minus spell_signed signed digits digits_on fixed fixed_on on_field is_digit pick
edge-fields = (refl, refl, refl, refl, refl, refl, refl, refl)

-- minus one is the last word, and the last word is minus one
pub edge-words : (signed_word (number true 1) ≡ 18446744073709551615) × (word_signed 18446744073709551615 ≡ number true 1)
unfolding signed_word word_signed signed negative pick
edge-words = (refl, refl)
