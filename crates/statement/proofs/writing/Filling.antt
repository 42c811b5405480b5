-- The file of judged rows put, row by row: rules for a search. Assumes nothing.
use mathlib.Core.Path.{◌≡◌, refl}
use mathlib.Core.List.{List}
use Prim.Native.Nat.{ℕ, ◌+◌, ◌-◌, ◌≤◌, ◌<◌}
use native.Mathlib.Omega.{arith}
use lib.ListN.{length, take, drop}
use Rattle.std.specs.Prelude.{Result, Ok, Err}
use Rattle.refusal.specs.declared.Flaw.{Flaw}
use Rattle.base.specs.Put.{Wrote}
use Rattle.gpc.specs.Records.{spell, spell_head, spell_movement}
use Rattle.gpc.specs.StatementRows.{thing_in, tested}
use Rattle.gpcback.proofs.Records.{spell-length}
use Rattle.record.specs.declared.HeadFields.{HeadFields}
use Rattle.record.specs.declared.MovementFields.{MovementFields}
use Rattle.record.specs.declared.Entry.{Entry}
use Rattle.record.specs.declared.Entry.TheVariants as entry
use Rattle.record.specs.Told.{told, head_of, movement_of, FitsHead, FitsMovement, Fits, in_row as kept_in_row}
use Rattle.statement.specs.Forms.{in_rows, Puts, Putable, PutAll, Putting}
use Rattle.statement.proofs.Pieces.{rows_short}
use Rattle.statement.proofs.Putting.{Sane, putting-first, putting-length, putting-inside, putting-room, putting-on, putting-end, head_puts, movement-puts, refused-head-puts, refused-movement-puts, nothing-puts}

-- ---- `put_record`

module _ (o : List ℕ) (at : ℕ) (s : List ℕ) (e : Entry) (q : told (kept_in_row s) e ≡ tested (thing_in s)) where
  pub head-put : (x : HeadFields) (o1 : List ℕ) (r : ℕ) → (a : Result HeadFields Flaw) → e ≡ entry.Head a → a ≡ Ok x → Wrote o at (spell_head (head_of (kept_in_row s) x)) o1 r → Puts in_rows o at s o1 r
  unfolding spell
  head-put x o1 r a h i w = head_puts in_rows o at s _ e q x o1 r (rw i at h) w

  pub movement-put : (x : MovementFields) (o1 : List ℕ) (r : ℕ) → (a : Result MovementFields Flaw) → e ≡ entry.Movement a → a ≡ Ok x → Wrote o at (spell_movement (movement_of (kept_in_row s) x)) o1 r
      → Puts in_rows o at s o1 r
  unfolding spell
  movement-put x o1 r a h i w = movement-puts in_rows o at s _ e q x o1 r (rw i at h) w

  pub no-head-put : (r : Result HeadFields Flaw) (f : Flaw) → e ≡ entry.Head r → r ≡ Err f → Puts in_rows o at s o at
  no-head-put r f h i = refused-head-puts in_rows o at s _ e q f (rw i at h)

  pub no-movement-put : (r : Result MovementFields Flaw) (f : Flaw) → e ≡ entry.Movement r → r ≡ Err f → Puts in_rows o at s o at
  no-movement-put r f h i = refused-movement-puts in_rows o at s _ e q f (rw i at h)

  pub none-put : e ≡ entry.Nothing → at + 130 ≤ length o → Puts in_rows o at s o at
  unfolding spell
  none-put h l = nothing-puts in_rows o at s _ e q refl h (omega (arith, l))

-- accounts fit their digits
module _ (e : Entry) (f : Fits e) where
  module _ (x : HeadFields) (a : Result HeadFields Flaw) (h : e ≡ entry.Head a) (i : a ≡ Ok x) where
    head-fits : FitsHead x
    head-fits = rw (h, i) at f

    pub head-prefix : x.prefix < 1000000
    head-prefix = head-fits.0

    pub head-base : x.base < 10000000000
    head-base = head-fits.1

  module _ (x : MovementFields) (a : Result MovementFields Flaw) (h : e ≡ entry.Movement a) (i : a ≡ Ok x) where
    movement-fits : FitsMovement x
    movement-fits = rw (h, i) at f

    pub movement-prefix : x.prefix < 1000000
    movement-prefix = movement-fits.0

    pub movement-base : x.base < 10000000000
    movement-base = movement-fits.1

    pub other-prefix : x.otherprefix < 1000000
    other-prefix = movement-fits.2

    pub other-base : x.otherbase < 10000000000
    other-base = movement-fits.3

pub ruleset recordputs = (head-prefix, head-base, movement-prefix, movement-base, other-prefix, other-base, head-put, movement-put, no-head-put, no-movement-put, none-put)

-- ---- `fill_file`

sane : Sane in_rows
sane = record { some = omega arith; short = rows_short; sized = spell-length }

module _ (s o : List ℕ) where
  pub fill-first : Putable in_rows s (length o) → Putting in_rows s o 0 0 o
  fill-first h = putting-first in_rows sane s o h

  module _ (at next : ℕ) (o1 : List ℕ) (d : Putting in_rows s o at next o1) where
    pub fill-length : length o1 ≡ length o
    fill-length = putting-length in_rows sane s o at next o1 d

    module _ (l : at < length s) where
      pub fill-inside : at + 136 ≤ length s
      fill-inside = putting-inside in_rows sane s o at next o1 d l

      pub fill-room : next + 130 ≤ length o1
      fill-room = putting-room in_rows sane s o at next o1 d l

      pub fill_on : (o2 : List ℕ) (r : ℕ) → Puts in_rows o1 next (take (at + 136 - at) (drop at s)) o2 r → Putting in_rows s o (at + 136) r o2
      fill_on o2 r u =
          let n : at + 136 - at ≡ 136 = omega arith in
          putting-on in_rows sane s o at next o1 d l o2 r (rw n at u)

    pub fill_end : length s ≤ at → PutAll in_rows s o o1
    fill_end h = putting-end in_rows sane s o at next o1 d h

pub ruleset filling = (fill-first, fill-length, fill-inside, fill-room, fill_on, fill_end)
