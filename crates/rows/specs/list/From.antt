-- What the rows that begin at a place of the lent bytes say, and those behind them. docs/ROWS.md. Assumes nothing.
use Rattle.std.specs.Prelude.{ℕ, List}
use Rattle.paper.specs.Batch.{Thing}
use Rattle.paper.specs.Rows.{things_in}
use Rattle.out.specs.word.Places.{rows_from}

-- their texts are cut from the lent bytes t
abbrev pub things_from : List ℕ → List ℕ → ℕ → List Thing
things_from t rows at = things_in t (rows_from 24 rows at)
