-- A symbol that stands at a place. Assumes nothing.
use Rattle.std.proofs.Common.{◌≡◌, ℕ, List, drop, arith}
use Rattle.paper.specs.Read.{value}
use Rattle.paper.specs.Bytes.{field_of}
use Rattle.paper.specs.Numerals.{digits}
use Rattle.paper.specs.ItemLine.{read_symbol}
use Rattle.numeral.specs.field.At.{found, field_at}
use Rattle.numeral.specs.declared.field.Run.{Run}
use Rattle.numeral.specs.placed.Known.{There, Stops, Ran}
use Rattle.numeral.proofs.placed.Parts.{some-value, at_value, one-stops, one_value, one-whole}

module _ (s : List ℕ) (at : ℕ) (h : There read_symbol s at) where
  symbol : (v : ℕ) × (digits 1 10 (field_of (drop at s)) ≡ value v)
  symbol = some-value (digits 1 10 (field_of (drop at s))) h.says

  pub symbol-stops : Stops s at
  symbol-stops = one-stops read_symbol s at h 1 10 symbol.0 symbol.1 (omega arith)

  pub symbol-is : (r : Run) → Ran s at r → found r.value r.end ≡ field_at read_symbol s at
  symbol-is r g =
      at_value read_symbol s at symbol.0 r.value r.end symbol.1
      (one_value read_symbol s at h 1 10 symbol.0 symbol.1 (omega arith) r g)
      (one-whole read_symbol s at h 1 10 symbol.0 symbol.1 (omega arith) r g)

pub ruleset symbols = (symbol-stops, symbol-is)
