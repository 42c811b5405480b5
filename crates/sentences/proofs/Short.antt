-- How long a sentence gets: 1,024 bytes are room for every one. Assumes nothing.
use mathlib.Core.List.{List}
use Prim.Native.Nat.{ℕ, ◌≤◌}
use native.Mathlib.Omega.{arith}
use lib.ListN.{length}
use Rattle.sheet.specs.declared.Sheet.{Sheet}
use Rattle.why.specs.declared.Finding.{Finding}
use Rattle.sentences.specs.Sentences.{sentence}
use Rattle.sentences.proofs.Whole.{fits-sentence}

-- whatever the sheet, the day, the file and the finding are: a number is spelled in at most 20 digits
pub sentence-short : (sh : Sheet) (today : ℕ) (f : List ℕ) (x : Finding) → length (sentence sh today f x) ≤ 1024
sentence-short sh today f x = omega (arith, (fits-sentence sh today f x).short)
