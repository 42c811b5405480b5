-- Records that are read, and rows that pass their tests, one after the other: they say what can be written; and statements have nothing
-- strange. Assumes nothing.
use mathlib.Core.Path.{◌≡◌, refl, sym, ap, ◌∙◌}
use mathlib.Core.List.{List, [], ◌∷◌}
use Prim.Native.Nat.{ℕ, ◌*◌}
use native.Mathlib.Omega.{arith}
use lib.ListN.{length, length-append}
use Rattle.gpc.specs.Parts.{pieces}
use Rattle.gpc.specs.Records.{Movement, Thing, said, saids, record_size, read_record, read_records, records_in}
use Rattle.gpc.specs.Statements.{Statement, movement_things, things}
use Rattle.gpc.specs.StatementRows.{statement_row, things_on, things_in, testeds}
use Rattle.gpcback.specs.Proper.{AllProper, NoStrange}
use Rattle.gpcback.proofs.Segments.{joined}
use Rattle.gpcback.proofs.Pieces.{Cut, cut-head, cut-tail, pieces_whole, pieces-cut}
use Rattle.gpcback.proofs.Sound.{sound, whole}
use Rattle.gpcback.proofs.RowsSound.{tested-proper}

-- ---- lists that are one list

module _ {A : Type 0} where
  none-some : {P : Type 0} {x : A} {s : List A} → [] ≡ x ∷ s → P
  none-some e = absurd (let z : ◌≡◌ {A = ℕ} 0 1 = cc in omega arith)

  some-none : {P : Type 0} {x : A} {s : List A} → x ∷ s ≡ [] → P
  some-none e = absurd (let z : ◌≡◌ {A = ℕ} 0 1 = cc in omega arith)

  first-same : {x y : A} {s t : List A} → x ∷ s ≡ y ∷ t → x ≡ y
  first-same e = cc

  rest-same : {x y : A} {s t : List A} → x ∷ s ≡ y ∷ t → s ≡ t
  rest-same e = cc

-- ---- records

-- each of these texts is read as the thing in its place
abbrev pub EachRead : List (List ℕ) → List Thing → Type 0
EachRead [] [] = Unit {0}
EachRead [] (t ∷ ts) = ⊥
EachRead (s ∷ ss) [] = ⊥
EachRead (s ∷ ss) (t ∷ ts) = (read_record s ≡ said t) × EachRead ss ts

each_read : (ss : List (List ℕ)) (ts : List Thing) → read_records ss ≡ saids ts → EachRead ss ts
unfolding read_records saids
each_read [] [] e = tt
each_read [] (t ∷ ts) e = none-some e
each_read (s ∷ ss) [] e = some-none e
each_read (s ∷ ss) (t ∷ ts) e = (first-same e, each_read ss ts (rest-same e))

each-proper : (ss : List (List ℕ)) (ts : List Thing) → EachRead ss ts → NoStrange ts → AllProper ts
each-proper [] [] r n = tt
each-proper [] (t ∷ ts) r n = absurd r
each-proper (s ∷ ss) [] r n = absurd r
each-proper (s ∷ ss) (t ∷ ts) (r, rs) (n, ns) = (sound s t r n, each-proper ss ts rs ns)

each_long : (ss : List (List ℕ)) (ts : List Thing) → Cut record_size ss → EachRead ss ts → NoStrange ts → length (joined ss []) ≡ 130 * length ts
each_long [] [] c r n = refl
each_long [] (t ∷ ts) c r n = absurd r
each_long (s ∷ ss) [] c r n = absurd r
each_long (s ∷ ss) (t ∷ ts) c (r, rs) (n, ns) =
    omega (arith, length-append s (joined ss []), whole s t (cut-head record_size s ss c) r n, each_long ss ts (cut-tail record_size s ss c) rs ns)

module _ (f : List ℕ) (ts : List Thing) (e : records_in f ≡ saids ts) where
  -- record by record
  pub records-read : EachRead (pieces record_size f) ts
  unfolding records_in
  records-read = each_read (pieces record_size f) ts e

  pub records-sound : NoStrange ts → AllProper ts
  records-sound n = each-proper (pieces record_size f) ts records-read n

  pub records-length : NoStrange ts → length f ≡ 130 * length ts
  records-length n =
      ap length (sym (pieces_whole record_size f)) ∙ each_long (pieces record_size f) ts (pieces-cut record_size (omega arith) f) records-read n

-- ---- rows

passed : (rs : List (List ℕ)) (ts : List Thing) → testeds (things_on rs) ≡ saids ts → NoStrange ts → (things_on rs ≡ ts) × AllProper ts
unfolding testeds things_on saids
passed [] [] e n = (refl, tt)
passed [] (t ∷ ts) e n = none-some e
passed (r ∷ rs) [] e n = some-none e
passed (r ∷ rs) (t ∷ ts) e (n, ns) =
    let p = tested-proper r t (first-same e) n in
    let q = passed rs ts (rest-same e) ns in
    (rw (p.0, q.0), (p.1, q.1))

pub rows-sound : (rows : List ℕ) (ts : List Thing) → testeds (things_in rows) ≡ saids ts → NoStrange ts → (things_in rows ≡ ts) × AllProper ts
unfolding things_in
rows-sound rows ts e n = passed (pieces statement_row rows) ts e n

-- ---- statements

movements-known : (ms : List Movement) (ts : List Thing) → NoStrange ts → NoStrange (movement_things ms ts)
unfolding movement_things
movements-known [] ts n = n
movements-known (m ∷ ms) ts n = ((λ e. let z : ◌≡◌ {A = ℕ} 0 1 = cc in omega arith), movements-known ms ts n)

pub things-known : (ss : List Statement) → NoStrange (things ss)
unfolding things
things-known [] = tt
things-known (s ∷ ss) = ((λ e. let z : ◌≡◌ {A = ℕ} 0 1 = cc in omega arith), movements-known s.movements (things ss) (things-known ss))

pub rows-tested : (rows : List ℕ) (ss : List Statement) → testeds (things_in rows) ≡ saids (things ss)
    → (things_in rows ≡ things ss) × AllProper (things ss)
rows-tested rows ss e = rows-sound rows (things ss) e (things-known ss)
