-- What a field's bytes must look like, and the number, day, account or amount that they spell where they do. Document 01, "Accounts" and
-- "Lines". Assumes nothing.
use Rattle.std.specs.Prelude.{ℕ, ◌+◌, ◌-◌, ◌*◌, ◌/◌, ◌%◌, Bool, false, List, [], eqb, ltb, length, take, drop}
use Rattle.base.specs.Pick.{pick}
use Rattle.base.specs.Seek.{all, seek, before}
use Rattle.paper.specs.Read.{Field, value, fault}
use Rattle.paper.specs.Bytes.{is_text, is_digit, dash, comma}
use Rattle.paper.specs.Numerals.{digits_on}

-- ---- numbers

-- `least` to `most` digits, and nothing else
unfoldable pub are_digits : ℕ → ℕ → List ℕ → Bool
are_digits least most s = pick (ltb (length s) least) false (pick (ltb most (length s)) false (all is_digit s))

-- a value, or 0
unfoldable pub or_zero : Field ℕ → ℕ
or_zero (value v) = v
or_zero (fault n) = 0

-- the number that digits spell; no digits are 0
abbrev pub spelled : List ℕ → ℕ
spelled s = or_zero (digits_on 0 s)

-- `n` bytes, all of them text bytes
unfoldable pub are_text : ℕ → List ℕ → Bool
are_text n s = pick (eqb (length s) n) (all is_text s) false

-- ---- days

-- "DATE is DDMMRR; C also RRRRMMDD": is it spelled in the second form, where the sheet takes that (`long`)?
unfoldable pub is_long : Bool → List ℕ → Bool
is_long long s = pick long (eqb (length s) 8) false

-- six digits, or eight
unfoldable pub is_day : Bool → List ℕ → Bool
is_day long s = pick (is_long long s) (are_digits 8 8 s) (are_digits 6 6 s)

-- the day DDMMRR, where RR means 20RR
abbrev pub shortly : ℕ → ℕ
shortly n = (2000 + n % 100) * 10000 + n / 100 % 100 * 100 + n / 10000

-- the day that is spelled, as YYYYMMDD
unfoldable pub day_spelled : Bool → List ℕ → ℕ
day_spelled long s = pick (is_long long s) (spelled s) (shortly (spelled s))

-- ---- accounts

-- is there a dash, between prefix and base?
unfoldable pub has_dash : List ℕ → Bool
has_dash s = ltb (seek dash s) (length s)

-- more than ten digits with no dash, where the sheet takes them (`joined`): the last ten are the base
unfoldable pub is_joined : Bool → List ℕ → Bool
is_joined joined s = pick joined (ltb 10 (length s)) false

-- the prefix's bytes; a base alone has none
unfoldable pub prefix_bytes : Bool → List ℕ → List ℕ
prefix_bytes joined s = pick (has_dash s) (before dash s) (pick (is_joined joined s) (take (length s - 10) s) [])

-- the base's
unfoldable pub base_bytes : Bool → List ℕ → List ℕ
base_bytes joined s = pick (has_dash s) (drop (seek dash s + 1) s) (pick (is_joined joined s) (drop (length s - 10) s) s)

-- a prefix of 1 to 6 digits, a dash and a base of `least` to 10; 11 to 16 digits where they may be joined; or a base alone
unfoldable pub is_account : Bool → ℕ → List ℕ → Bool
is_account joined least s =
    pick (has_dash s)
    (pick (are_digits 1 6 (prefix_bytes joined s)) (are_digits least 10 (base_bytes joined s)) false)
    (pick (is_joined joined s)
    (pick (are_digits 1 6 (prefix_bytes joined s)) (are_digits 10 10 (base_bytes joined s)) false)
    (are_digits least 10 s))

-- ---- amounts

-- is there a comma, where the sheet takes one (`may`)?
unfoldable pub has_comma : Bool → List ℕ → Bool
has_comma may s = pick may (ltb (seek comma s) (length s)) false

-- the digits before the comma
abbrev pub crown_bytes : List ℕ → List ℕ
crown_bytes s = before comma s

-- .. and those behind it
abbrev pub haler_bytes : List ℕ → List ℕ
haler_bytes s = drop (seek comma s + 1) s

-- 1 to `most` digits; or 1 to 11, a comma and two, 14 bytes at most
unfoldable pub is_amount : Bool → ℕ → List ℕ → Bool
is_amount may most s =
    pick (has_comma may s)
    (pick (are_digits 1 11 (crown_bytes s)) (are_digits 2 2 (haler_bytes s)) false)
    (are_digits 1 most s)

-- what is spelled, in haléř
unfoldable pub amount_spelled : Bool → List ℕ → ℕ
amount_spelled may s = pick (has_comma may s) (spelled (crown_bytes s) * 100 + spelled (haler_bytes s)) (spelled s)
