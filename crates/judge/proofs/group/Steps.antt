-- What one line does in any state but the end: 3, 15, or what its fields say. Assumes nothing.
use mathlib.Core.Path.{◌≡◌}
use mathlib.Core.Bool.{true, false}
use Prim.Native.Nat.{ℕ}
use Rattle.base.specs.Pick.{pick}
use Rattle.sheet.specs.declared.Sheet.{Sheet}
use Rattle.paper.specs.Lines.{Line}
use Rattle.paper.specs.Entries.{Counted, counted, Kind, kind_of}
use Rattle.paper.specs.Spells.{read_as}
use Rattle.tally.specs.Tally.{Tally, t_stop, No, context_of, is_due, is_full, on_said, read, step}

-- the tests go by the line's kind
module _ (sh : Sheet) (today k : ℕ) (t : Line) (c : Tally) (goes : read sh today k t (kind_of t.bytes) c ≡ step sh today k t c) (kind : Kind) (e : kind_of t.bytes ≡ kind) where
  by_kind : read sh today k t kind c ≡ step sh today k t c
  by_kind = rw e at goes

  -- 3: it is not due
  pub not-due : is_due c kind ≡ false → t_stop (No 3 k t.start) ≡ step sh today k t c
  unfolding read pick
  not-due d = rw d at by_kind

  module _ (d : is_due c kind ≡ true) where
    -- 15: there is no room for it
    pub no_room : is_full sh c kind ≡ true → t_stop (No 15 k t.start) ≡ step sh today k t c
    unfolding read pick
    no_room f = rw (d, f) at by_kind

    -- what its fields say
    pub by-fields : is_full sh c kind ≡ false → (said : Counted) → said ≡ counted (read_as sh today (context_of c) kind t.bytes) → on_said sh k t.start said c ≡ step sh today k t c
    unfolding read pick
    by-fields f said r = rw r (rw (d, f) at by_kind)
