-- Bytes read piece by piece, in either form. Assumes nothing.
use mathlib.Core.Path.{◌≡◌, refl, ap, ◌∙◌}
use mathlib.Core.Bool.{false}
use mathlib.Core.List.{List, [], ◌∷◌, ◌++◌}
use Prim.Native.Nat.{ℕ, ◌+◌, ◌≤◌, ◌<◌}
use native.Mathlib.Omega.{arith}
use native.Mathlib.Nat.{div-eq_of_lt}
use lib.ListN.{length, take, drop, length-drop, drop_of_length-le}
use lib.Dec.{eqb}
use lib.Seq.{drop-drop}
use borrow.Author.Tests.{lt-ltb}
use Rattle.base.specs.Pick.{pick}
use Rattle.base.specs.Seek.{starts}
use Rattle.base.proofs.Cases.{pick_same}
use Rattle.paper.specs.Bytes.{null}
use Rattle.gpc.specs.Parts.{pieces, pieces_on}
use Rattle.gpc.specs.Records.{Thing, Record, no_record, read_record, read_records, records_in, spell, spells}
use Rattle.gpc.specs.StatementRows.{thing_in, things_on, things_in, tested, testeds, thing_row, things_rows}
use Rattle.gpcback.proofs.Pieces.{pieces-one, pieces_none}
use Rattle.statement.specs.Forms.{Form, in_file, in_rows, reads, read_all, puts}

-- ---- a form's own names

file-reads : (ss : List (List ℕ)) → reads in_file ss ≡ read_records ss
unfolding reads read_records
file-reads [] = refl
file-reads (s ∷ ss) = ap (λ (l : List Record). read_record s ∷ l) (file-reads ss)

pub file-all : (f : List ℕ) → read_all in_file f ≡ records_in f
unfolding read_all records_in
file-all f = file-reads (pieces 130 f)

rows-reads : (ss : List (List ℕ)) → reads in_rows ss ≡ testeds (things_on ss)
unfolding reads testeds things_on
rows-reads [] = refl
rows-reads (s ∷ ss) = ap (λ (l : List Record). tested (thing_in s) ∷ l) (rows-reads ss)

pub rows_all : (rows : List ℕ) → read_all in_rows rows ≡ testeds (things_in rows)
unfolding read_all things_in
rows_all rows = rows-reads (pieces 136 rows)

pub file-puts : (ts : List Thing) → puts in_file ts ≡ things_rows ts
unfolding puts things_rows
file-puts [] = refl
file-puts (t ∷ ts) = ap (λ (l : List ℕ). thing_row t ++ l) (file-puts ts)

pub rows-puts : (ts : List Thing) → puts in_rows ts ≡ spells ts
unfolding puts spells
rows-puts [] = refl
rows-puts (t ∷ ts) = ap (λ (l : List ℕ). spell t ++ l) (rows-puts ts)

-- ---- what is cut short is no record

no_start : (a b : ℕ) (t : List ℕ) → length t ≤ 1 → starts (a ∷ b ∷ []) t ≡ false
unfolding starts pick
no_start a b [] h = refl
no_start a b (x ∷ []) h = pick_same (eqb x a) false
no_start a b (x ∷ y ∷ t) h = absurd (omega (arith, h))

pub file-short : (s : List ℕ) → length s < 130 → read_record s ≡ no_record
unfolding read_record pick
file-short s h = rw (no_start 13 10 (drop 128 s) (omega (arith, length-drop 128 s))) refl

pub rows_short : (r : List ℕ) → length r < 136 → tested (thing_in r) ≡ no_record
unfolding thing_in tested pick
rows_short r h = rw (lt-ltb (length r) 136 h) refl

-- ---- piece by piece

module _ (F : Form) (some : 0 < F.size) where
  all_one : (s : List ℕ) → F.size ≤ length s → read_all F s ≡ F.read (take F.size s) ∷ read_all F (drop F.size s)
  unfolding read_all reads
  all_one s h = rw (pieces-one F.size some s h) refl

  few : (t : List ℕ) → 0 < length t → length t < F.size → ((u : List ℕ) → length u < F.size → F.read u ≡ no_record) → reads F (pieces F.size t) ≡ no_record ∷ []
  unfolding pieces pieces_on reads null pick
  few [] a b short = absurd (omega (arith, a))
  few (x ∷ t) a b short = rw (div-eq_of_lt b, short (x ∷ t) b) refl

  module _ (s : List ℕ) (at : ℕ) where
    pub from_one : at + F.size ≤ length s → read_all F (drop at s) ≡ F.read (take F.size (drop at s)) ∷ read_all F (drop (at + F.size) s)
    from_one h = all_one (drop at s) (omega (arith, length-drop at s)) ∙ rw (drop-drop F.size at s) refl

    pub from-none : length s ≤ at → read_all F (drop at s) ≡ []
    unfolding read_all reads
    from-none h = rw (drop_of_length-le s h, pieces_none F.size some) refl

    pub from-short : at < length s → length s < at + F.size → ((t : List ℕ) → length t < F.size → F.read t ≡ no_record)
        → read_all F (drop at s) ≡ no_record ∷ []
    unfolding read_all
    from-short l h short = few (drop at s) (omega (arith, length-drop at s)) (omega (arith, length-drop at s)) short
