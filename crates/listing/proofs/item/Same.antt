-- What an item's line warns of in its own context it warns of where every bank may be due. Assumes nothing.
use mathlib.Core.Path.{◌≡◌, refl, ◌∙◌}
use mathlib.Core.Bool.{Bool, true}
use mathlib.Core.List.{List, [], ◌++◌, map}
use Prim.Native.Nat.{ℕ}
use Rattle.sheet.specs.declared.Sheet.{Sheet}
use Rattle.paper.specs.Lines.{Line}
use Rattle.paper.specs.Entries.{Listed, item_line, kind_of, on_group, on_entry}
use Rattle.paper.specs.Terms.{bank_due}
use Rattle.paper.specs.ItemLine.{read_item}
use Rattle.paper.specs.Spells.{Context, read_as}
use Rattle.paper.proofs.LineSays.{Asked, LineSays, an-item, refused, says}
use Rattle.numeral.specs.placed.Said.{is_said}
use Rattle.rowlaws.proofs.Within.{item-wider}
use Rattle.itemline.specs.Walk.{any_bank}
use Rattle.why.specs.Warned.{on_listed, noticed, total_warned, line_warned}
use Rattle.listing.specs.item.Warned.{item_warned}

-- a line that is read where some banks may be due says the same where all may
any-read : (sh : Sheet) (due : ℕ → Bool) (single : Bool) (s : List ℕ) → is_said (read_item sh due single s) ≡ true → read_item sh any_bank single s ≡ read_item sh due single s
any-read sh due = item-wider due any_bank (λ _. refl) sh

module _ (sh : Sheet) (today : ℕ) (c : Context) where
  -- what put_item asks for
  pub item-ready : (s : List ℕ) → is_said (read_as sh today c item_line s) ≡ true → is_said (read_item sh any_bank c.single s) ≡ true
  unfolding read_as
  item-ready s h = rw (any-read sh (bank_due sh today c.kind c.date) c.single s h) h

  module _ (k : ℕ) (t : Line) where
    -- an item's line has no total
    no-total : (ts : List Line) (kind : ℕ) {a : Asked} {r : Listed} → LineSays sh today a t.bytes item_line r
        → on_listed r (λ x. total_warned sh today k t ts kind x ++ map (noticed sh today k t x.places) x.warnings) []
        ≡ on_listed r (λ x. map (noticed sh today k t x.places) x.warnings) []
    unfolding on_listed total_warned on_group on_entry
    no-total ts kind (an-item _ _ _ _ _ _ _ _ _) = refl
    no-total ts kind (refused _ _) = refl

    as-item : is_said (read_as sh today c item_line t.bytes) ≡ true
        → on_listed (read_as sh today c item_line t.bytes) (λ x. map (noticed sh today k t x.places) x.warnings) [] ≡ item_warned sh today k t c.single
    unfolding read_as item_warned
    as-item h = rw (any-read sh (bank_due sh today c.kind c.date) c.single t.bytes h)

    pub item-lines : (ts : List Line) → kind_of t.bytes ≡ item_line → is_said (read_as sh today c item_line t.bytes) ≡ true
        → line_warned sh today k t ts c ≡ item_warned sh today k t c.single
    unfolding line_warned
    item-lines ts e h = rw e (no-total ts c.kind (says sh today c item_line t.bytes) ∙ as-item h)
