-- How long a list of findings is, as numbers and in words. Assumes nothing.
use mathlib.Core.Path.{◌≡◌, refl}
use mathlib.Core.List.{List, [], ◌∷◌}
use Prim.Native.Nat.{ℕ, ◌*◌, ◌≤◌}
use native.Mathlib.Omega.{arith}
use lib.ListN.{length, length-append}
use Rattle.base.specs.Pick.{pick}
use Rattle.sheet.specs.declared.Sheet.{Sheet}
use Rattle.out.proofs.word.Laws.{words-length}
use Rattle.why.specs.declared.Finding.{Finding}
use Rattle.sentences.proofs.Short.{sentence-short}
use Rattle.listing.specs.Listed.{entry, spelled, listed}
use Rattle.findings.specs.Findings.{in_words, in_numbers}

entry-long : (x : Finding) → length (entry x) ≡ 64
unfolding entry
entry-long x = words-length (x.number ∷ x.cause ∷ x.line ∷ x.byte ∷ x.length ∷ x.field ∷ x.least ∷ x.most ∷ [])

module _ (sh : Sheet) (today : ℕ) (f : List ℕ) where
  -- 64 bytes a finding
  pub numbers-long : (xs : List Finding) → length (listed (in_numbers sh today) f xs) ≡ 64 * length xs
  unfolding listed spelled pick
  numbers-long [] = refl
  numbers-long (x ∷ xs) =
      omega (arith, length-append (entry x) (listed (in_numbers sh today) f xs), entry-long x, numbers-long xs)

  -- at most 1,024
  pub words_long : (xs : List Finding) → length (listed (in_words sh today) f xs) ≤ 1024 * length xs
  unfolding listed spelled pick
  words_long [] = omega arith
  words_long (x ∷ xs) =
      omega (arith, length-append (spelled (in_words sh today) f x) (listed (in_words sh today) f xs), sentence-short sh today f x, words_long xs)
