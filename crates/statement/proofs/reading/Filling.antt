-- The rows of a judged file put, record by record: rules for a search. Assumes nothing.
use mathlib.Core.Path.{◌≡◌, refl}
use mathlib.Core.List.{List}
use Prim.Native.Nat.{ℕ, ◌+◌, ◌-◌, ◌≤◌, ◌<◌}
use native.Mathlib.Omega.{arith}
use lib.ListN.{length, take, drop}
use Rattle.std.specs.Prelude.{Result, Ok, Err}
use Rattle.refusal.specs.declared.Flaw.{Flaw}
use Rattle.base.specs.Put.{Wrote}
use Rattle.gpc.specs.Records.{read_record}
use Rattle.gpc.specs.StatementRows.{thing_row, head_row, movement_row}
use Rattle.gpcback.proofs.Rows.{row-length}
use Rattle.record.specs.declared.HeadFields.{HeadFields}
use Rattle.record.specs.declared.MovementFields.{MovementFields}
use Rattle.record.specs.declared.Entry.{Entry}
use Rattle.record.specs.declared.Entry.TheVariants as entry
use Rattle.record.specs.Told.{told, head_of, movement_of, in_file as kept_in_file}
use Rattle.statement.specs.Forms.{in_file, Puts, Putable, PutAll, Putting}
use Rattle.statement.proofs.Pieces.{file-short}
use Rattle.statement.proofs.Putting.{Sane, putting-first, putting-length, putting-inside, putting-room, putting-on, putting-end, head_puts, movement-puts, refused-head-puts, refused-movement-puts, nothing-puts}

-- ---- `put_row`

module _ (o : List ℕ) (at : ℕ) (s : List ℕ) (e : Entry) (q : told (kept_in_file s) e ≡ read_record s) where
  pub head-put : (x : HeadFields) (o1 : List ℕ) (r : ℕ) → (a : Result HeadFields Flaw) → e ≡ entry.Head a → a ≡ Ok x → Wrote o at (head_row (head_of (kept_in_file s) x)) o1 r → Puts in_file o at s o1 r
  unfolding thing_row
  head-put x o1 r a h i w = head_puts in_file o at s _ e q x o1 r (rw i at h) w

  pub movement-put : (x : MovementFields) (o1 : List ℕ) (r : ℕ) → (a : Result MovementFields Flaw) → e ≡ entry.Movement a → a ≡ Ok x → Wrote o at (movement_row (movement_of (kept_in_file s) x)) o1 r
      → Puts in_file o at s o1 r
  unfolding thing_row
  movement-put x o1 r a h i w = movement-puts in_file o at s _ e q x o1 r (rw i at h) w

  pub no-head-put : (r : Result HeadFields Flaw) (f : Flaw) → e ≡ entry.Head r → r ≡ Err f → Puts in_file o at s o at
  no-head-put r f h i = refused-head-puts in_file o at s _ e q f (rw i at h)

  pub no-movement-put : (r : Result MovementFields Flaw) (f : Flaw) → e ≡ entry.Movement r → r ≡ Err f → Puts in_file o at s o at
  no-movement-put r f h i = refused-movement-puts in_file o at s _ e q f (rw i at h)

  pub none-put : e ≡ entry.Nothing → at + 136 ≤ length o → Puts in_file o at s o at
  unfolding thing_row
  none-put h l = nothing-puts in_file o at s _ e q refl h (omega (arith, l))

pub ruleset rowputs = (head-put, movement-put, no-head-put, no-movement-put, none-put)

-- ---- `fill_rows`

sane : Sane in_file
sane = record { some = omega arith; short = file-short; sized = row-length }

module _ (f o : List ℕ) where
  pub fill-first : Putable in_file f (length o) → Putting in_file f o 0 0 o
  fill-first h = putting-first in_file sane f o h

  module _ (at next : ℕ) (o1 : List ℕ) (d : Putting in_file f o at next o1) where
    pub fill-length : length o1 ≡ length o
    fill-length = putting-length in_file sane f o at next o1 d

    module _ (l : at < length f) where
      pub fill-inside : at + 130 ≤ length f
      fill-inside = putting-inside in_file sane f o at next o1 d l

      pub fill-room : next + 136 ≤ length o1
      fill-room = putting-room in_file sane f o at next o1 d l

      pub fill_on : (o2 : List ℕ) (r : ℕ) → Puts in_file o1 next (take (at + 130 - at) (drop at f)) o2 r → Putting in_file f o (at + 130) r o2
      fill_on o2 r u =
          let n : at + 130 - at ≡ 130 = omega arith in
          putting-on in_file sane f o at next o1 d l o2 r (rw n at u)

    pub fill_end : length f ≤ at → PutAll in_file f o o1
    fill_end h = putting-end in_file sane f o at next o1 d h

pub ruleset filling = (fill-first, fill-length, fill-inside, fill-room, fill_on, fill_end)
