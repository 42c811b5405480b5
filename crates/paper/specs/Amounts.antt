-- Amounts, in haléř. Document 01, "Lines", amounts. Assumes nothing.
use Rattle.std.specs.Prelude.{ℕ, ◌+◌, ◌*◌, Bool, false, List, ltb, leb, length, drop}
use Rattle.base.specs.Pick.{pick}
use Rattle.base.specs.Seek.{seek, before}
use Rattle.paper.specs.Read.{Field, value, fault, given}
use Rattle.paper.specs.Bytes.{comma}
use Rattle.paper.specs.Numerals.{digits}

-- crowns, a comma and two digits; with the comma at most 14 bytes, so at most 11 digits before it, and at least one
unfoldable pub with_comma : List ℕ → Field ℕ
with_comma s = given (digits 1 11 (before comma s)) λ crowns. given (digits 2 2 (drop (seek comma s + 1) s)) λ rest. value (crowns * 100 + rest)

-- 1 to `most` digits; where a sheet takes a comma (E), also with one
unfoldable pub read_amount : Bool → ℕ → List ℕ → Field ℕ
read_amount may most s = pick (pick may (ltb (seek comma s) (length s)) false) (with_comma s) (digits 1 most s)

-- a group's total: up to 14 digits on every sheet, and of any size
unfoldable pub read_total : Bool → List ℕ → Field ℕ
read_total may s = read_amount may 14 s

-- what an item's amount may be
unfoldable pub amount_proper : ℕ → ℕ → Bool
amount_proper max v = pick (ltb v 1) false (leb v max)

-- an item's amount: 6 where it is zero or over its limit
unfoldable pub read_item_amount : Bool → ℕ → ℕ → List ℕ → Field ℕ
read_item_amount may most max s = given (read_amount may most s) λ v. pick (amount_proper max v) (value v) (fault 6)
