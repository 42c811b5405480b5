-- What a line warns of, and where in it. Document 01, "Lines", "Warnings are counted". Assumes nothing.
use Rattle.std.specs.Prelude.{ℕ, zero, suc, List, [], ◌∷◌}

-- a due day that is past; K's priority digit 1 or 2; a part, or a name, that is cut. (A total that differs shows only where its group
-- closes, so it is none of a line's: Judge counts it.)
pub data Warning : Type 0 where
  past_day low_priority long_part long_name : Warning

-- a warning, and where in the line the field, the part or the name begins that it is of
pub record Notice : Type 0 where
  pub warning : Warning
  pub offset : ℕ

-- a notice of these two
abbrev pub notice : Warning → ℕ → Notice
notice w at = record { warning = w; offset = at }

-- a field at `at` that gives n warnings, which is none or one
unfoldable pub notices : Warning → ℕ → ℕ → List Notice
notices w at zero = []
notices w at (suc n) = notice w at ∷ notices w at n
