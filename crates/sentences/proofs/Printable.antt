-- A sentence can be shown as it stands: every byte is LF or 32 to 126. Assumes nothing.
use mathlib.Core.Path.{◌≡◌}
use mathlib.Core.Bool.{true}
use mathlib.Core.List.{List}
use Prim.Native.Nat.{ℕ}
use Rattle.base.specs.Seek.{all}
use Rattle.sheet.specs.declared.Sheet.{Sheet}
use Rattle.why.specs.declared.Finding.{Finding}
use Rattle.sentences.specs.Sentences.{sentence}
use Rattle.sentences.specs.Printable.{is_printable}
use Rattle.sentences.proofs.Whole.{fits-sentence}

-- whatever bytes the file has
pub sentence-printable : (sh : Sheet) (today : ℕ) (f : List ℕ) (x : Finding) → all is_printable (sentence sh today f x) ≡ true
sentence-printable sh today f x = (fits-sentence sh today f x).printable
