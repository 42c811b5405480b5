-- What a file and what rows are judged to be, by what the one spells and the others hold. Assumes nothing.
use mathlib.Core.Path.{◌≡◌, refl, ap, ◌∙◌}
use mathlib.Core.List.{List}
use mathlib.Core.Logic.{◌↔◌}
use Prim.Native.Nat.{ℕ}
use Rattle.gpc.specs.Records.{Record, records_in}
use Rattle.gpc.specs.Statements.{Statement, things, record_spots, row_spots, Judged, accepted, refused}
use Rattle.gpc.specs.Spelled.{Say, Spells}
use Rattle.gpc.specs.FirstFault.{FirstFault}
use Rattle.gpc.specs.Canonical.{canon}
use Rattle.gpc.specs.StatementRows.{things_in, testeds}
use Rattle.gpc.specs.Answers.{judge_file, judge_rows}
use Rattle.gpcback.specs.Proper.{AllProper}
use Rattle.gpcback.proofs.Many.{records-back, propers-tested}
use Rattle.gpcback.proofs.ManySound.{records-sound, things-known, rows-tested}
use Rattle.gpcexact.proofs.Main.{exact}
use Rattle.gpcexact.proofs.Faults.{first-fault}
use Rattle.gpcwhole.specs.Outcomes.{Hold}

pub by-judged : {P : Type 0} (j : Judged) → ((ss : List Statement) → j ≡ accepted ss → P) → ((n k off : ℕ) → j ≡ refused n k off → P) → P
by-judged (accepted ss) a r = a ss refl
by-judged (refused n k off) a r = r n k off refl

-- ---- a file

pub accepted-file : (f : List ℕ) (ss : List Statement) → judge_file f ≡ accepted ss ↔ Spells f ss
unfolding judge_file
accepted-file f ss = exact record_spots (records_in f) ss

pub refused-file : (f : List ℕ) (n k off : ℕ) → judge_file f ≡ refused n k off ↔ FirstFault record_spots (records_in f) n k off
unfolding judge_file
refused-file f n k off = first-fault record_spots (records_in f) n k off

-- what a file spells can be written,
pub spelled-proper : (f : List ℕ) (ss : List Statement) → Spells f ss → AllProper (things ss)
spelled-proper f ss s = records-sound f (things ss) s.read (things-known ss)

-- and the canonical file of what is said and can be written spells it again.
canon-says : (rs : List Record) (ss : List Statement) → AllProper (things ss) → Say rs ss → Spells (canon ss) ss
unfolding canon
canon-says rs ss p s = record { read = records-back (things ss) p; some = s.some; sums = s.sums }

pub canon-spells : (f : List ℕ) (ss : List Statement) → Spells f ss → Spells (canon ss) ss
canon-spells f ss s = canon-says (records_in f) ss (spelled-proper f ss s) s

-- ---- rows

-- rows that are accepted hold statements, which their canonical file spells;
pub accepted-rows : (rows : List ℕ) (ss : List Statement) → judge_rows rows ≡ accepted ss → Hold rows ss × Spells (canon ss) ss
unfolding judge_rows
accepted-rows rows ss e =
    let s = (exact row_spots (testeds (things_in rows)) ss).0 e in
    let (held, p) = rows-tested rows ss s.read in
    (held, canon-says (testeds (things_in rows)) ss p s)

-- rows that hold what any file spells are accepted.
pub held-accepted : (rows f : List ℕ) (ss : List Statement) → Hold rows ss → Spells f ss → judge_rows rows ≡ accepted ss
unfolding judge_rows
held-accepted rows f ss held s =
    (exact row_spots (testeds (things_in rows)) ss).1
    (record { read = ap testeds held ∙ propers-tested (things ss) (spelled-proper f ss s); some = s.some; sums = s.sums })

pub refused-rows : (rows : List ℕ) (n k off : ℕ) → judge_rows rows ≡ refused n k off ↔ FirstFault row_spots (testeds (things_in rows)) n k off
unfolding judge_rows
refused-rows rows n k off = first-fault row_spots (testeds (things_in rows)) n k off
