-- Every line lies inside its file, behind the one before it, and so does the total of a group that lawful lines leave open. Assumes nothing.
use mathlib.Core.Path.{◌≡◌, refl}
use mathlib.Core.List.{List, [], ◌∷◌}
use Prim.Native.Nat.{ℕ, suc, ◌+◌, ◌≤◌, ◌<◌}
use native.Mathlib.Omega.{arith}
use lib.ListN.{length}
use Rattle.base.proofs.Cases.{either}
use Rattle.sheet.specs.declared.Sheet.{Sheet}
use Rattle.paper.specs.Lines.{Line, first, ended, behind, lines_of}
use Rattle.paper.specs.Judge.{rev_on, State, at_first, at_file, at_group, at_item, stop, context_of}
use Rattle.paper.specs.FirstFault.{Lawful, nothing, header, opens, begins, more, closes, finishes}
use Rattle.exact.proofs.named.Named.{named-got}
use Rattle.exact.proofs.named.Lines.{any-named}

-- lines of a file of that size
abbrev pub Within : ℕ → List Line → Type 0
Within size [] = Unit {0}
Within size (t ∷ ts) = (t.start + length t.bytes ≤ size) × Within size ts

-- .. none of which starts before i, nor before the end of the one in front of it
abbrev pub InRow : ℕ → ℕ → List Line → Type 0
InRow size i [] = Unit {0}
InRow size i (t ∷ ts) = (i ≤ t.start) × (t.start + length t.bytes ≤ size) × InRow size (t.start + length t.bytes) ts

-- .. the first of which starts at i
abbrev Laid : ℕ → ℕ → List Line → Type 0
Laid size i [] = Unit {0}
Laid size i (t ∷ ts) = (t.start ≡ i) × (t.start + length t.bytes ≤ size) × InRow size (t.start + length t.bytes) ts

module _ (size : ℕ) where
  pub row_within : (i : ℕ) (ts : List Line) → InRow size i ts → Within size ts
  row_within i [] g = tt
  row_within i (t ∷ ts) (s, l, w) = (l, row_within (t.start + length t.bytes) ts w)

  row_before : (i j : ℕ) (ts : List Line) → j ≤ i → InRow size i ts → InRow size j ts
  row_before i j [] h g = tt
  row_before i j (t ∷ ts) h (s, l, w) = (omega arith, l, w)

  laid-row : (i j : ℕ) (ts : List Line) → j ≤ i → Laid size i ts → InRow size j ts
  laid-row i j [] h g = tt
  laid-row i j (t ∷ ts) h (s, l, w) = (omega arith, l, w)

  module _ (i : ℕ) (h : i < size) where
    laid-first : (b : ℕ) (ts : List Line) → Laid size (suc i) ts → Laid size i (first i b ts)
    laid-first b [] g = (refl, omega arith, tt)
    laid-first b (t ∷ ts) (s, l, w) = (refl, omega arith, row_before _ _ ts (omega arith) w)

    laid-ended : (ts : List Line) → Laid size (suc i) ts → Laid size i (ended i ts)
    laid-ended ts g = (refl, omega arith, laid-row (suc i) _ ts (omega arith) g)

    laid-behind : (ts : List Line) → Laid size (suc i) ts → Laid size i (behind i ts)
    laid-behind [] g = tt
    laid-behind (t ∷ ts) (s, l, w) = (refl, omega arith, row_before _ _ ts (omega arith) w)

  lines-laid : (i : ℕ) (s : List ℕ) → i + length s ≤ size → Laid size i (lines_of i s)
  unfolding lines_of
  lines-laid i [] h = tt
  lines-laid i (b ∷ s) h =
      let rest = lines_of (suc i) s in
      let g = lines-laid (suc i) s (omega arith) in
      either (Laid size i) _ (λ _. laid-ended i (omega arith) rest g)
      (λ _. either (Laid size i) _
      (λ _. either (Laid size i) _ (λ _. laid-behind i (omega arith) rest g) (λ _. laid-ended i (omega arith) rest g))
      (λ _. laid-first i (omega arith) b rest g))

  -- of lines before and behind a place
  pub split-within : (before after : List Line) → Within size (rev_on before after) → Within size before × Within size after
  split-within [] after w = (tt, w)
  split-within (t ∷ before) after w = let (b, (h, a)) = split-within before (t ∷ after) w in ((h, b), a)

-- the lines of a file stand one behind the other
pub lines-row : (f : List ℕ) → InRow (length f) 0 (lines_of 0 f)
lines-row f = laid-row (length f) 0 0 (lines_of 0 f) (omega arith) (lines-laid (length f) 0 f (omega arith))

pub lines-within : (f : List ℕ) → Within (length f) (lines_of 0 f)
lines-within f = row_within (length f) 0 (lines_of 0 f) (lines-row f)

-- an open group's total stands in a line that was read, n being their number
abbrev pub Kept : ℕ → ℕ → State → Type 0
Kept size n at_first = Unit {0}
Kept size n (at_file x) = Unit {0}
Kept size n (at_group x) = Unit {0}
Kept size n (at_item x) = (1 ≤ x.head.line) × (x.head.line ≤ n) × (x.head.byte ≤ size)
Kept size n (stop a) = Unit {0}

module _ (sh : Sheet) (today size : ℕ) where
  pub lawful-kept : {ts : List Line} {st : State} → Lawful sh today ts st → Within size ts → Kept size (length ts) st
  lawful-kept nothing w = tt
  lawful-kept (header l q) w = tt
  lawful-kept (opens l few q) w = tt
  lawful-kept (begins {t = t} {x = x} l q) (here, w) =
      (omega arith, omega arith, omega (arith, here, named-got (rw q at (any-named sh today (context_of (at_group x)) t.bytes))))
  lawful-kept (more l free q) (here, w) = let k = lawful-kept l w in (k.0, omega (arith, k.1), k.2)
  lawful-kept (closes l some q good) w = tt
  lawful-kept (finishes l some q) w = tt
