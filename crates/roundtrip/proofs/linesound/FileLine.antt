-- What the line of an account file says fits. Assumes nothing.
use mathlib.Core.Path.{◌≡◌, sym}
use mathlib.Core.Bool.{true}
use Prim.Native.Nat.{ℕ}
use native.Mathlib.Omega.{arith}
use borrow.Author.Tests.{lt-ltb, leb-true, le-ltb, le-leb}
use Rattle.base.specs.Pick.{pick}
use Rattle.base.proofs.Cases.{by-lt}
use Rattle.base.proofs.Seek.{never}
use Rattle.sheet.specs.declared.Sheet.{Sheet}
use Rattle.sheet.specs.Sheets.{kind_allowed}
use Rattle.sheet.proofs.Laws.{Sane}
use Rattle.paper.specs.Proper.{kind_proper}
use Rattle.paper.specs.FileLine.{read_kind, read_number}
use Rattle.paper.proofs.LineSays.{Read}
use Rattle.numeral.proofs.given.Sound.{tested, number-tested}
use Rattle.roundtrip.specs.linesound.Fits.{FileFits}

-- a kind of a sheet is a kind of a batch
pub kind-in : (sh : Sheet) → Sane sh → (k : ℕ) → kind_allowed sh k ≡ true → kind_proper k ≡ true
unfolding kind_allowed kind_proper pick
kind-in sh sane k h =
    by-lt k 1501 (λ lt. never (sym (rw (lt-ltb k 1501 lt) at h)))
    (λ le. rw (le-ltb k 1501 le) (le-leb k 1504 (omega (arith, leb-true k sh.lastkind (rw (le-ltb k 1501 le) at h), sane.kind_last))))

pub file-fits : (sh : Sheet) → Sane sh → {test : ℕ → ℕ} {kind number : ℕ} → Read (read_kind sh) kind → Read (read_number test) number
    → FileFits sh test kind number
unfolding read_kind
file-fits sh sane {test} {kind} {number} f g =
    let k = (tested 4 4 7 (kind_allowed sh) f.0 kind f.1).1 in
    let n = number-tested test g.0 number g.1 in
    record { kind-proper = kind-in sh sane kind k; kind-allowed = k; number_low = n.0; number-allowed = n.1 }
