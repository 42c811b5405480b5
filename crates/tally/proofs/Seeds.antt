-- Numbers that count as seen before the file: none of them change nothing. Assumes nothing.
use mathlib.Core.Path.{◌≡◌, refl, ap}
use mathlib.Core.List.{List, [], ◌∷◌, append-nil}
use Prim.Native.Nat.{ℕ}
use lib.ListN.{length}
use Rattle.sheet.specs.declared.Sheet.{Sheet}
use Rattle.paper.specs.Lines.{Line, lines_of}
use Rattle.tally.specs.Tally.{Tally, t_first, t_file, t_group, t_item, t_stop, run, step, tally, seed, seeded_run, seeded}

seed-none : (c : Tally) → seed [] c ≡ c
unfolding seed
seed-none t_first = refl
seed-none (t_file b) = rw (append-nil b.seen)
seed-none (t_group b s) = rw (append-nil b.seen)
seed-none (t_item b s o) = rw (append-nil b.seen)
seed-none (t_stop a) = refl

run_none : (sh : Sheet) (today n : ℕ) (ts : List Line) → seeded_run [] sh today n ts ≡ run sh today n 1 ts t_first
unfolding seeded_run run
run_none sh today n [] = refl
run_none sh today n (t ∷ ts) = ap (run sh today n 2 ts) (seed-none (step sh today 1 t t_first))

pub seeded-none : (sh : Sheet) (today : ℕ) (f : List ℕ) → seeded [] sh today f ≡ tally sh today f
unfolding seeded tally
seeded-none sh today f = run_none sh today (length f) (lines_of 0 f)
