-- The line that tells of a refusal. Document 01, "A whole run". Assumes nothing.
use Rattle.std.specs.Prelude.{ℕ, List, [], ◌∷◌, ◌++◌}
use Rattle.paper.specs.Bytes.{bytes}
use Rattle.paper.specs.Numerals.{decimal}

-- `refused N line L byte B` and LF
unfoldable pub refused_line : ℕ → ℕ → ℕ → List ℕ
refused_line n l p = bytes "refused " ++ (decimal n ++ (bytes " line " ++ (decimal l ++ (bytes " byte " ++ (decimal p ++ (10 ∷ []))))))
