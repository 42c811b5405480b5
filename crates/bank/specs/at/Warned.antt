-- What judging keeps of a bank field. Document 01, "Lines", item, and "Warnings are counted". Assumes nothing.
use Rattle.std.specs.Prelude.{ℕ, Bool, ltb}
use Rattle.base.specs.Pick.{pick}
use Rattle.paper.specs.Read.{Field, value, fault}
use Rattle.paper.specs.BankField.{Bank}

-- how many warnings the field gives
abbrev pub warnings_of : Bank → ℕ
warnings_of b = b.warnings

-- how many the ninth digit from the right gives, or 13
unfoldable pub warned_by : Bool → ℕ → Field ℕ
warned_by ranked d = pick (ltb d 1) (value 0) (pick ranked (pick (ltb d 3) (value 1) (value 0)) (fault 13))
