-- What a line warns of by its kind: a group's as its own reader says, and those that are no group's and no item's of nothing. Assumes nothing.
use mathlib.Core.Path.{◌≡◌, refl}
use mathlib.Core.List.{List, [], ◌++◌, map}
use Prim.Native.Nat.{ℕ}
use Rattle.sheet.specs.declared.Sheet.{Sheet}
use Rattle.paper.specs.Warnings.{Notice}
use Rattle.paper.specs.Accounts.{Account, is_nobody}
use Rattle.paper.specs.Lines.{Line}
use Rattle.paper.specs.Terms.{day_here}
use Rattle.paper.specs.Entries.{group, Places, Listed, said, Kind, head_line, file_line, group_line, item_line, group_end, file_end, kind_of, on_group, on_entry}
use Rattle.paper.specs.Spells.{Context, for_item, read_as}
use Rattle.paper.proofs.LineSays.{Asked, LineSays, no-header, a_header, a-file, a-group, an-item, a_group_end, a_file_end, refused, says}
use Rattle.why.specs.declared.Finding.{Finding}
use Rattle.why.specs.Warned.{on_listed, noticed, ahead, total_warned, line_warned}
use Rattle.listing.specs.group.Warned.{group_warned}

-- neither a group's line nor an item's
abbrev pub Other : Kind → Type 0
Other head_line = Unit {0}
Other file_line = Unit {0}
Other group_line = ⊥
Other item_line = ⊥
Other group_end = Unit {0}
Other file_end = Unit {0}

module _ (sh : Sheet) (today k : ℕ) (t : Line) (ts : List Line) (c : Context) where
  -- a group's line, with the exact sum of the items that follow
  pub group_lines : {payer : Account} {total date : ℕ} {ns : List Notice} {p : Places} → kind_of t.bytes ≡ group_line
      → read_as sh today c group_line t.bytes ≡ said (group payer total date) ns p
      → line_warned sh today k t ts c ≡ group_warned sh today k t (day_here sh c.kind) (ahead sh today (for_item c.kind date (is_nobody payer)) ts)
  unfolding line_warned group_warned total_warned read_as on_listed on_group on_entry
  group_lines e r = rw (e, r)

  abbrev of : Listed → List Finding
  of r = on_listed r (λ x. total_warned sh today k t ts c.kind x ++ map (noticed sh today k t x.places) x.warnings) []

  nothing : {a : Asked} {kind : Kind} {r : Listed} → Other kind → LineSays sh today a t.bytes kind r → of r ≡ []
  unfolding on_listed total_warned on_group on_entry
  nothing o (no-header _) = refl
  nothing o (a_header _ _ _ _ _ _ _) = refl
  nothing o (a-file _ _ _ _) = refl
  nothing o (a-group _ _ _ _ _ _) = absurd o
  nothing o (an-item _ _ _ _ _ _ _ _ _) = absurd o
  nothing o a_group_end = refl
  nothing o a_file_end = refl
  nothing o (refused _ _) = refl

  -- the first line, an account file's, and both that close
  pub other-lines : (kind : Kind) → Other kind → kind_of t.bytes ≡ kind → line_warned sh today k t ts c ≡ []
  unfolding line_warned
  other-lines kind o e = rw e (nothing o (says sh today c kind t.bytes))
