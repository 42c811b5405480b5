-- What the rows from a place on say: a whole row and those behind it, none, or bytes that are left over. Assumes nothing.
use mathlib.Core.Path.{◌≡◌}
use mathlib.Core.List.{List, [], ◌∷◌}
use Prim.Native.Nat.{ℕ, ◌+◌, ◌≤◌, ◌<◌}
use lib.Dec.{lit<}
use lib.ListN.{length, drop}
use Rattle.base.specs.Pick.{pick}
use Rattle.paper.specs.Batch.{strange}
use Rattle.paper.specs.Words.{words}
use Rattle.paper.specs.Rows.{thing_in, things_in}
use Rattle.out.proofs.word.Rows.{rows_step, rows_end, rows-rest}
use Rattle.rows.specs.list.From.{things_from}

module _ (rows : List ℕ) (at : ℕ) (t : List ℕ) where
  pub things-step : at + 192 ≤ length rows → things_from t rows at ≡ thing_in t (words 24 (drop at rows)) ∷ things_from t rows (at + 192)
  unfolding things_in
  things-step h = rw (rows_step 24 (lit< tt) rows at h)

  pub things-end : length rows ≤ at → things_from t rows at ≡ []
  unfolding things_in
  things-end h = rw (rows_end 24 (lit< tt) rows at h)

  -- bytes that are left over are no row
  pub things-rest : at < length rows → length rows < at + 192 → things_from t rows at ≡ strange ∷ []
  unfolding things_in thing_in pick
  things-rest p h = rw (rows-rest 24 (lit< tt) rows at p h)
