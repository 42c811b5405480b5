-- A line by its kind: it has the bytes that the kind begins with, and its walk is that of the kind. Assumes nothing.
use mathlib.Core.Path.{◌≡◌, refl, sym, ap, ◌∙◌}
use mathlib.Core.List.{List}
use Prim.Native.Nat.{ℕ, ◌≤◌}
use native.Mathlib.Omega.{arith}
use lib.ListN.{length}
use Rattle.sheet.specs.declared.Sheet.{Sheet}
use Rattle.paper.specs.Batch.{Header}
use Rattle.paper.specs.Entries.{head_line, file_line, group_line, item_line, group_end, file_end, kind_of}
use Rattle.paper.specs.Spells.{Context, after}
use Rattle.paper.proofs.Starts.{kind-long}
use Rattle.scan.specs.kind.Told.{told}
use Rattle.scan.specs.declared.kind.LineKind.{LineKind}
use Rattle.scan.specs.declared.kind.LineKind.TheVariants.{Head, File, Group, Item, GroupEnd, FileEnd}
use Rattle.fileline.specs.seen.Bits.{Holds}
use Rattle.why.specs.Names.{Name, group_closing, file_closing, field_number}
use Rattle.why.specs.Walk.{why_close, why_first, why_file, why_group, why_item, why_as}
use Rattle.fault.specs.declared.known.Bearing.{Bearing}
use Rattle.fault.specs.line.Walks.{Walk, walk}
use Rattle.fault.specs.known.Bears.{Bears}

module _ (w : List ℕ) (k : LineKind) (q : told k ≡ kind_of w) where
  -- ---- its first bytes

  pub head-long : k ≡ Head → 4 ≤ length w
  head-long e = kind-long w head_line (sym q ∙ ap told e)

  pub file-long : k ≡ File → 2 ≤ length w
  file-long e = kind-long w file_line (sym q ∙ ap told e)

  pub group-long : k ≡ Group → 2 ≤ length w
  group-long e = kind-long w group_line (sym q ∙ ap told e)

  pub group-end-long : k ≡ GroupEnd → 1 ≤ length w
  group-end-long e = omega (arith, kind-long w group_end (sym q ∙ ap told e))

  pub file-end-long : k ≡ FileEnd → 1 ≤ length w
  file-end-long e = omega (arith, kind-long w file_end (sym q ∙ ap told e))

  -- ---- its walk

  module _ (sh : Sheet) (today : ℕ) (x : Bearing) (c : Context) (b : Bears x c (kind_of w)) (r : Walk) where
    pub as-head : k ≡ Head → ((t : ℕ) (d : Context) → r ≡ walk (why_first sh t d w)) → r ≡ walk (why_as sh today c w (kind_of w))
    unfolding why_as
    as-head e f = let i : kind_of w ≡ head_line = sym q ∙ ap told e in rw i (f today c)

    pub as-file : k ≡ File
        → ((t : ℕ) (d : Context) (h : Header) (l : List ℕ) → d.numbers ≡ after h l → Holds x.seen.words l → h.from ≡ x.from → h.to ≡ x.to → r ≡ walk (why_file sh t d w))
        → r ≡ walk (why_as sh today c w (kind_of w))
    unfolding why_as
    as-file e f =
        let i : kind_of w ≡ file_line = sym q ∙ ap told e in
        let j : Bears x c file_line = rw i at b in
        rw i (f today c j.header j.before j.numbers j.holds j.first j.last)

    pub as-group : k ≡ Group → ((d : Context) → d.kind ≡ x.kind → r ≡ walk (why_group sh today d w)) → r ≡ walk (why_as sh today c w (kind_of w))
    unfolding why_as
    as-group e f =
        let i : kind_of w ≡ group_line = sym q ∙ ap told e in
        let j : Bears x c group_line = rw i at b in
        rw i (f c j)

    pub as-item : k ≡ Item → ((d : Context) → d.kind ≡ x.kind → d.date ≡ x.date → d.single ≡ x.single → r ≡ walk (why_item sh today d w))
        → r ≡ walk (why_as sh today c w (kind_of w))
    unfolding why_as
    as-item e f =
        let i : kind_of w ≡ item_line = sym q ∙ ap told e in
        let j : Bears x c item_line = rw i at b in
        rw i (f c j.kind j.date j.single)

    pub as-group-end : k ≡ GroupEnd → ((n : Name) → field_number n ≡ 50 → r ≡ walk (why_close sh.near n w)) → r ≡ walk (why_as sh today c w (kind_of w))
    unfolding why_as field_number
    as-group-end e f = let i : kind_of w ≡ group_end = sym q ∙ ap told e in rw i (f group_closing refl)

    pub as-file-end : k ≡ FileEnd → ((n : Name) → field_number n ≡ 51 → r ≡ walk (why_close sh.near n w)) → r ≡ walk (why_as sh today c w (kind_of w))
    unfolding why_as field_number
    as-file-end e f = let i : kind_of w ≡ file_end = sym q ∙ ap told e in rw i (f file_closing refl)

pub ruleset longs = (head-long, file-long, group-long, group-end-long, file-end-long)

pub ruleset kinds = (as-head, as-file, as-group, as-item, as-group-end, as-file-end)
