-- Things that can be written, one after the other: their records are read back, their rows hold them, and they pass the tests of rows.
-- Assumes nothing.
use mathlib.Core.Path.{◌≡◌, refl, ap, ◌∙◌}
use mathlib.Core.List.{List, [], ◌∷◌, ◌++◌}
use Prim.Native.Nat.{ℕ, ◌*◌}
use native.Mathlib.Omega.{arith}
use lib.ListN.{length, take, length-append}
use lib.Seq.{take_at}
use Rattle.gpc.specs.Records.{Thing, saids, record_size, read_records, records_in, spell, spells}
use Rattle.gpc.specs.StatementRows.{statement_row, things_on, things_in, testeds, thing_row, things_rows}
use Rattle.gpcback.specs.Proper.{AllProper}
use Rattle.gpcback.proofs.Pieces.{pieces_none, pieces-first}
use Rattle.gpcback.proofs.Records.{spell-length, back}
use Rattle.gpcback.proofs.Tests.{proper-tested}
use Rattle.gpcback.proofs.Rows.{row-length, row_back}

-- ---- records

pub spells-length : (ts : List Thing) → AllProper ts → length (spells ts) ≡ 130 * length ts
unfolding spells
spells-length [] p = refl
spells-length (t ∷ ts) (p, ps) = omega (arith, length-append (spell t) (spells ts), spell-length t p, spells-length ts ps)

pub records-back : (ts : List Thing) → AllProper ts → records_in (spells ts) ≡ saids ts
unfolding records_in read_records spells saids
records-back [] p = ap read_records (pieces_none record_size (omega arith))
records-back (t ∷ ts) (p, ps) =
    ap read_records (pieces-first record_size (omega arith) (spell t) (spells ts) (spell-length t p)) ∙ rw (back t p, records-back ts ps)

-- ---- rows

pub rows-length : (ts : List Thing) → AllProper ts → length (things_rows ts) ≡ 136 * length ts
unfolding things_rows
rows-length [] p = refl
rows-length (t ∷ ts) (p, ps) = omega (arith, length-append (thing_row t) (things_rows ts), row-length t p, rows-length ts ps)

pub rows_back : (ts : List Thing) → AllProper ts → things_in (things_rows ts) ≡ ts
unfolding things_in things_on things_rows
rows_back [] p = ap things_on (pieces_none statement_row (omega arith))
rows_back (t ∷ ts) (p, ps) =
    ap things_on (pieces-first statement_row (omega arith) (thing_row t) (things_rows ts) (row-length t p)) ∙ rw (row_back t p, rows_back ts ps)

-- .. with other bytes behind them
pub rows-back-in : (ts : List Thing) (rest : List ℕ) → AllProper ts → things_in (take (136 * length ts) (things_rows ts ++ rest)) ≡ ts
rows-back-in ts rest p = ap things_in (take_at (things_rows ts) rest (136 * length ts) (rows-length ts p)) ∙ rows_back ts p

pub propers-tested : (ts : List Thing) → AllProper ts → testeds ts ≡ saids ts
unfolding testeds saids
propers-tested [] p = refl
propers-tested (t ∷ ts) (p, ps) = rw (proper-tested t p, propers-tested ts ps)
