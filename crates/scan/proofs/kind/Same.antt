-- Two kinds of line are the same where they have the same name. Assumes nothing.
use Rattle.std.proofs.Common.{◌≡◌, Bool, ◌∙◌, rules}
use Rattle.paper.specs.Judge.{is}
use Rattle.scan.specs.declared.kind.LineKind.{LineKind}
use Rattle.scan.specs.contracts.kind.LineKind.{the_type}
use Rattle.scan.specs.kind.Told.{told}
use denote.Enum.Bare.{sameb}

same-is : (a b : LineKind) → sameb the_type a b ≡ is (told a) (told b)
same-is = search rules

-- r is what `==` answered
pub tested-is : (a b : LineKind) (r : Bool) → r ≡ sameb the_type a b → r ≡ is (told a) (told b)
tested-is a b r e = e ∙ same-is a b
