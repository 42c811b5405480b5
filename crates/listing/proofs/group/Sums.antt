-- The sum of the items that follow: what each line gives to it, and the sum so far. Assumes nothing.
use mathlib.Core.Path.{◌≡◌, refl, sym, ◌∙◌}
use mathlib.Core.Bool.{Bool, true, false}
use mathlib.Core.List.{List, ◌∷◌}
use Prim.Native.Nat.{ℕ, ◌+◌, ◌-◌, ◌≤◌, ◌<◌}
use native.Mathlib.Omega.{arith}
use lib.ListN.{length}
use mir.Syntax.{w64}
use mir.Val.{Fits}
use Rattle.base.specs.Pick.{pick}
use Rattle.base.proofs.Seek.{never}
use Rattle.sheet.specs.declared.Sheet.{Sheet}
use Rattle.paper.specs.Batch.{most14}
use Rattle.paper.specs.Lines.{Line, lines_from}
use Rattle.paper.specs.Entries.{Listed, counted, Kind, head_line, file_line, group_line, item_line, group_end, file_end, kind_of, on_item, on_entry}
use Rattle.paper.specs.Terms.{collection, bank_due}
use Rattle.paper.specs.ItemLine.{read_item}
use Rattle.paper.specs.Spells.{read_as, read_line}
use Rattle.paper.specs.Judge.{is}
use Rattle.paper.specs.Rows.{accepted}
use Rattle.paper.proofs.LineSays.{Asked, LineSays, no-header, a_header, a-file, a-group, an-item, a_group_end, a_file_end, refused, says}
use Rattle.scan.specs.declared.line.Cut.{Cut}
use Rattle.scan.specs.line.Cutting.{Cuts}
use Rattle.scan.proofs.line.Lines.{at-end}
use Rattle.numeral.specs.placed.Said.{is_said}
use Rattle.itemline.specs.declared.Fields.{Fields}
use Rattle.itemline.specs.Told.{told, Sound}
use Rattle.itemline.specs.Walk.{any_bank}
use Rattle.why.specs.Warned.{on_listed, ahead}
use Rattle.why.proofs.Warned.{ahead-item}
use Rattle.listing.specs.group.Warned.{cut, line_in}
use Rattle.listing.specs.group.Ahead.{ItemsSaid}

-- ---- is it an item's line?

is-item : (k : Kind) → is item_line k ≡ true → k ≡ item_line
is-item head_line e = never (sym e)
is-item file_line e = never (sym e)
is-item group_line e = never (sym e)
is-item item_line e = refl
is-item group_end e = never (sym e)
is-item file_end e = never (sym e)

not-item : (k : Kind) → is item_line k ≡ false → k ≡ item_line → ⊥
not-item k e q = never (rw q at e)

-- ---- one line

module _ (sh : Sheet) (today : ℕ) (single : Bool) (t : Line) (ts : List Line) where
  -- an item's line gives its amount
  item-gives : kind_of t.bytes ≡ item_line → (x : Fields) → told t.bytes x ≡ counted (read_item sh any_bank single t.bytes)
      → ahead sh today (accepted single) (t ∷ ts) ≡ x.amount + ahead sh today (accepted single) ts
  unfolding read_line read_as bank_due collection pick
  item-gives e x q =
      let z : read_line sh today (accepted single) t.bytes ≡ told t.bytes x = rw e (sym q) in
      ahead-item sh today (accepted single) t ts z

  -- any other ends the sum
  none-gives : {a : Asked} {w : List ℕ} {kind : Kind} {x : Listed} → LineSays sh today a w kind x → (kind ≡ item_line → ⊥)
      → on_listed x (λ x. on_item x.entry (λ i. i.amount + ahead sh today (accepted single) ts) 0 0) 0 ≡ 0
  unfolding on_listed on_item on_entry
  none-gives (no-header _) o = refl
  none-gives (a_header _ _ _ _ _ _ _) o = refl
  none-gives (a-file _ _ _ _) o = refl
  none-gives (a-group _ _ _ _ _ _) o = refl
  none-gives (an-item _ _ _ _ _ _ _ _ _) o = absurd (o refl)
  none-gives a_group_end o = refl
  none-gives a_file_end o = refl
  none-gives (refused _ _) o = refl

  other-ends : (kind_of t.bytes ≡ item_line → ⊥) → ahead sh today (accepted single) (t ∷ ts) ≡ 0
  unfolding ahead
  other-ends o = none-gives (says sh today (accepted single) (kind_of t.bytes) t.bytes) o

-- ---- the sum so far, of the lines from `from` to `at`

pub record Summing (sh : Sheet) (f : List ℕ) (single : Bool) (from at sum : ℕ) : Type 0 where
  pub inside : at ≤ length f
  pub ready : ItemsSaid sh single (lines_from f at)
  pub same : (today : ℕ) → sum + ahead sh today (accepted single) (lines_from f at) ≡ ahead sh today (accepted single) (lines_from f from)

-- the sum is the exact one, if that has at most 14 digits
abbrev Exact : Sheet → List ℕ → Bool → ℕ → ℕ → Type 0
Exact sh f single from sum = (today : ℕ) → ahead sh today (accepted single) (lines_from f from) ≤ most14 → sum ≡ ahead sh today (accepted single) (lines_from f from)

module _ (sh : Sheet) (f : List ℕ) (single : Bool) where
  pub sum-start : (at : ℕ) → at ≤ length f → ItemsSaid sh single (lines_from f at) → Summing sh f single at at 0
  sum-start at i r = record { inside = i; ready = r; same = λ today. omega arith }

  module _ (from at sum : ℕ) (so : Summing sh f single from at sum) where
    pub sum_past : 99999999999999 < sum → Exact sh f single from sum
    sum_past l today h = absurd (omega (arith, so.same today))

    pub sum-end : length f ≤ at → Exact sh f single from sum
    unfolding ahead
    sum-end l today h = let z : ahead sh today (accepted single) (lines_from f at) ≡ 0 = rw (at-end f at l) in omega (arith, so.same today)

    -- a line, and whether it is an item's
    module _ (line : Cut) (cuts : Cuts f at line) (r : Bool) (tells : r ≡ is item_line (kind_of (cut f at line.stop))) where
      split : (today : ℕ) → ahead sh today (accepted single) (lines_from f at) ≡ ahead sh today (accepted single) (line_in f at line.stop ∷ lines_from f line.next)
      split today = rw cuts.lines

      pub sum-stop : r ≡ false → Exact sh f single from sum
      sum-stop e today h =
          omega (arith, so.same today, split today, other-ends sh today single (line_in f at line.stop) (lines_from f line.next) (not-item _ (sym tells ∙ e)))

      module _ (e : r ≡ true) where
        known : kind_of (cut f at line.stop) ≡ item_line
        known = is-item _ (sym tells ∙ e)

        here : (is_said (read_item sh any_bank single (cut f at line.stop)) ≡ true) × ItemsSaid sh single (lines_from f line.next)
        here = (rw cuts.lines at so.ready) known

        pub sum-ready : is_said (read_item sh any_bank single (cut f at line.stop)) ≡ true
        sum-ready = here.0

        module _ (x : Fields) (sound : Sound (cut f at line.stop) x) where
          pub sum_fits : sum ≤ 99999999999999 → Fits w64 (sum + x.amount)
          sum_fits l = record { fits = omega (arith, sound.low) }

          pub sum-item : told (cut f at line.stop) x ≡ counted (read_item sh any_bank single (cut f at line.stop)) → Summing sh f single from line.next (sum + x.amount)
          sum-item q =
              record {
                inside = cuts.inside;
                ready = here.1;
                same = λ today. omega (arith, so.same today, split today, item-gives sh today single (line_in f at line.stop) (lines_from f line.next) known x q);
              }

-- a line is behind the one before it
pub line-less : (f : List ℕ) (at : ℕ) (line : Cut) → Cuts f at line → length f - line.next < length f - at
line-less f at line cuts = omega (arith, cuts.ahead, cuts.inside)

pub ruleset sums = (sum-start, sum_past, sum-end, sum-stop, sum-ready, sum_fits, sum-item, line-less)
