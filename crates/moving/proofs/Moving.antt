-- A firm moves from one sheet to a wider one: what it keeps of reading and of writing. Assumes nothing.
use mathlib.Core.Path.{◌≡◌, ap, ◌∙◌}
use mathlib.Core.Bool.{false}
use mathlib.Core.List.{List, [], ◌∷◌}
use Prim.Native.Nat.{ℕ}
use Rattle.sheet.specs.declared.Sheet.{Sheet}
use Rattle.sheet.specs.declared.Style.{Style}
use Rattle.sheet.proofs.Laws.{Sane}
use Rattle.paper.specs.Accounts.{is_nobody}
use Rattle.paper.specs.Batch.{Item, Group, AccountFile, Batch, Header}
use Rattle.paper.specs.Entries.{Entry, head, file, group, item, close_group, close_file}
use Rattle.paper.specs.FileLine.{series}
use Rattle.paper.specs.Spells.{Context, for_item, Due, item_dues, group_dues, file_dues, dues}
use Rattle.paper.specs.Lines.{lines_of}
use Rattle.paper.specs.Judge.{Accepted, judge}
use Rattle.paper.specs.Rows.{lines_rows}
use Rattle.paper.specs.Canonical.{canon}
use Rattle.roundtrip.specs.whole.Carries.{Carries, head_read, past_warnings}
use Rattle.roundtrip.proofs.whole.Main as whole
use Rattle.uncut.specs.Unmarked.{Unmarked}
use Rattle.uncut.specs.Wider.{Wider, Throughout}
use Rattle.uncut.specs.Severe.{restyled}
use Rattle.uncut.specs.Looser.{Looser}
use Rattle.uncut.proofs.Walk.{taken-too}
use Rattle.uncut.proofs.Main.{Any, any-throughout}
use Rattle.uncut.proofs.LooseWalk.{also-accepted}
use Rattle.moving.proofs.Rows.{rows_alike}
use Rattle.moving.specs.Marks.{ItemsUnmarked, GroupsUnmarked, BatchUnmarked}

-- ---- texts without ` NP:`

-- an item without ` NP:` in any part; any other entry
abbrev pub Plain : Entry → ℕ → Type 0
Plain (head h) w = Unit {0}
Plain (file kind number) w = Unit {0}
Plain (group payer total date) w = Unit {0}
Plain (item x) w = Unmarked x.parts
Plain close_group w = Unit {0}
Plain close_file w = Unit {0}

-- what is due behind an entry is let through with whatever warnings are left
Onward : List Due → Type 0
Onward ds = (w : ℕ) → Throughout Plain ds w

items-plain : (c : Context) (xs : List Item) (r : List Due) → ItemsUnmarked xs → Onward r → Onward (item_dues c xs r)
unfolding Onward item_dues
items-plain c [] r u o w = λ v rest q. (tt, o rest)
items-plain c (x ∷ xs) r (here, u) o w = λ v rest q. (here, items-plain c xs r u o rest)

groups-plain : (kind : ℕ) (gs : List Group) (r : List Due) → GroupsUnmarked gs → Onward r → Onward (group_dues kind gs r)
unfolding Onward group_dues
groups-plain kind [] r u o w = λ v rest q. (tt, o rest)
groups-plain kind (g ∷ gs) r (here, u) o w =
    λ v rest q. (tt, items-plain (for_item kind g.date (is_nobody g.payer)) g.items (group_dues kind gs r) here (groups-plain kind gs r u o) rest)

files-plain : (h : Header) (seen : List ℕ) (fs : List AccountFile) → BatchUnmarked fs → Onward (file_dues h seen fs)
unfolding Onward file_dues
files-plain h seen [] u w = tt
files-plain h seen (f ∷ fs) (here, u) w =
    λ v rest q.
    (tt, groups-plain f.kind f.groups (file_dues h (series f.number ∷ seen) fs) here (files-plain h (series f.number ∷ seen) fs u) rest)

batch-plain : (h : Header) (b : Batch) → BatchUnmarked b → Onward (dues h b)
unfolding Onward dues
batch-plain h b u w = λ v rest q. (tt, files-plain h [] b u rest)

-- ---- two sheets, of which one is wider

module _ (turn : Header → Header) (today : ℕ) where
  -- What is accepted without ` NP:` in any part the wider sheet accepts alike,
  pub moved : (a b : Sheet) → Wider Plain turn a b → (f : List ℕ) (h : Header) (batch : Batch) (w : ℕ) → BatchUnmarked batch
      → judge a today f ≡ Accepted h batch w → judge b today f ≡ Accepted (turn h) batch w
  unfolding Onward
  moved a b wider f h batch w u e = taken-too Plain turn a b wider today f h batch w (batch-plain h batch u w) e

  -- and leaves the same rows of it.
  pub moved-rows : (a b : Sheet) → Wider Plain turn a b → (f : List ℕ) (h : Header) (batch : Batch) (w : ℕ) → BatchUnmarked batch
      → judge a today f ≡ Accepted h batch w → lines_rows a today false (lines_of 0 f) ≡ lines_rows b today false (lines_of 0 f)
  unfolding Onward
  moved-rows a b wider f h batch w u e = rows_alike Plain turn a b wider today f h batch w (batch-plain h batch u w) e

  -- Whatever is accepted a sheet accepts, as some batch, that is wider but for its looser texts.
  pub moved-anyhow : (a b : Sheet) (y : Style) → Wider Any turn a (restyled b y b.strict) → Looser y b.text
      → (f : List ℕ) (h : Header) (batch : Batch) (w : ℕ) → judge a today f ≡ Accepted h batch w
      → (c : Batch) × (v : ℕ) × (judge b today f ≡ Accepted (turn h) c v)
  moved-anyhow a b y wider looser f h batch w e =
      also-accepted b y b.text b.strict looser today f (turn h) batch w
      (taken-too Any turn a (restyled b y b.strict) wider today f h batch w (any-throughout (dues h batch) w) e)

  -- What a sheet carries with a header the wider one carries with any header that is read there as what becomes of it.
  pub carried-too : (a b : Sheet) → Sane a → Sane b → Wider Plain turn a b → (h g : Header) → turn (head_read a h) ≡ head_read b g
      → (batch : Batch) → BatchUnmarked batch → Carries a today h batch → Carries b today g batch
  carried-too a b p q wider h g same batch u c =
      (whole.carried b q today g batch).1 (
        canon a h batch,
        past_warnings a today batch,
        moved a b wider (canon a h batch) (head_read a h) batch (past_warnings a today batch) u (whole.back a p today h batch c)
            ∙ ap (λ (x : Header). Accepted x batch (past_warnings a today batch)) same,
      )
