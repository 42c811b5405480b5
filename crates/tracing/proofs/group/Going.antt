-- A pass comes along the lines of a group, until one closes it, judging halts or the file ends. Assumes nothing.
use Rattle.std.proofs.Common.{Some, Result, Ok, Err}
use mathlib.Core.Path.{◌≡◌, refl, sym, ap, ◌∙◌}
use mathlib.Core.Bool.{Bool, true, false}
use mathlib.Core.List.{List}
use Prim.Native.Nat.{ℕ, ◌+◌, ◌≤◌}
use native.Mathlib.Omega.{arith}
use lib.ListN.{length}
use Rattle.base.proofs.Cases.{by-test, pick_true, pick-false}
use Rattle.base.proofs.Seek.{never}
use Rattle.sheet.specs.declared.Sheet.{Sheet}
use Rattle.sheet.proofs.Laws.{Sane}
use Rattle.paper.specs.Judge.{total_broken}
use Rattle.scan.specs.declared.line.Cut.{Cut}
use Rattle.scan.specs.line.Cutting.{Cuts}
use Rattle.calendar.specs.declared.term.Banks.{Banks}
use Rattle.itemline.specs.declared.judge.Judged.{Judged}
use Rattle.judge.specs.declared.group.Held.{Held}
use Rattle.judge.specs.declared.group.Turn.{Turn}
use Rattle.judge.specs.declared.group.Turn.TheVariants as turn
use Rattle.judge.specs.declared.group.GroupEnd.{GroupEnd}
use Rattle.judge.specs.declared.refused.Refused.{Refused}
use Rattle.judge.specs.group.Stands.{line_in, held_more, Banked, Turns, closed_as, LowItem}
use Rattle.judge.proofs.group.Going.{Going, going-low}
use Rattle.course.specs.Stands.{at_group, at_item}
use Rattle.course.proofs.line.Leading.{item-more, item-stops, item-closes, closes-low, item-broken}
use Rattle.tracing.specs.declared.group.Far.{Far}
use Rattle.tracing.specs.declared.group.Far.TheVariants as far
use Rattle.tracing.specs.file.Comes.{Reached}
use Rattle.tracing.specs.group.Along.{Closing, Goes, Through}
use Rattle.tracing.proofs.file.Reaching.{reached-on}

-- a pass that has come to line j, which starts at `start`, in the group, comes to line k
pub record Carries (sh : Sheet) (today : ℕ) (f : List ℕ) (start j : ℕ) (x₀ : Held) (at k : ℕ) (x : Held) : Type 0 where
  pub comes : (from to : ℕ) (words : List ℕ) → Reached sh today f start j (at_item from to x₀) words → Reached sh today f at k (at_item from to x) words

pub carries-start : (sh : Sheet) (today : ℕ) (f : List ℕ) (at k : ℕ) (x : Held) → Carries sh today f at k x at k x
carries-start sh today f at k x = record { comes = λ from to words reached. reached }

-- ---- the line that closes the group

-- where a closed group says that it ends
abbrev place_of : Result GroupEnd Refused → ℕ
place_of (Ok e) = e.at
place_of (Err n) = 0

abbrev line_of : Result GroupEnd Refused → ℕ
line_of (Ok e) = e.line
line_of (Err n) = 0

abbrev is_closed : Result GroupEnd Refused → Bool
is_closed (Ok e) = true
is_closed (Err n) = false

closed-place : (strict : Bool) (at k : ℕ) (x : Held) (g : GroupEnd) → Ok g ≡ closed_as strict at k x → (g.at ≡ at) × (g.line ≡ k)
unfolding closed_as
closed-place strict at k x g e =
    by-test (total_broken strict x.opened.total x.opened.sum)
    (λ b. never (ap is_closed (e ∙ pick_true _ _ b)))
    (λ b. let q = e ∙ pick-false _ _ b in (ap place_of q, ap line_of q))

module _ (at : ℕ) (cut : Cut) (k : ℕ) (x : Held) (g : Result GroupEnd Refused) where
  pub ends-closed : (d : GroupEnd) → g ≡ Ok d
      → (sh : Sheet) (today : ℕ) (f : List ℕ) → Sane sh → Closing sh today f at cut k x g → Through sh today f at k x (far.Closed d)
  ends-closed d e sh today f sane closing from to words reached =
      let (a, b) = closed-place sh.strict cut.next (k + 1) x d (sym e ∙ closing.comes) in
      let leads = item-closes sh today k f at cut.stop x (Ok turn.Close) closing.turns refl cut.next (k + 1) g closing.comes d e from to words in
      let low = closes-low sh today k f at cut.stop x (Ok turn.Close) closing.turns refl cut.next (k + 1) g closing.comes sane closing.low d e in
      rw (a, b) (
        reached-on sh today f at k (at_item from to x) words reached cut closing.cuts words (Some (at_group from to d.counts d.shelf)) leads (at_group from to d.counts d.shelf) refl low,
        closing.cuts.ahead,
      )

  pub ends-broken : (n : Refused) → g ≡ Err n
      → (sh : Sheet) (today : ℕ) (f : List ℕ) → Sane sh → Closing sh today f at cut k x g → Through sh today f at k x (far.Halt at cut k x)
  ends-broken n e sh today f sane closing from to words reached =
      record {
        before = words;
        reached = reached;
        cuts = closing.cuts;
        low = tt;
        leads = item-broken sh today k f at cut.stop x (Ok turn.Close) closing.turns refl cut.next (k + 1) g closing.comes n e from to words;
      }

pub ruleset group-ends = (ends-closed, ends-broken)

further : (sh : Sheet) (today : ℕ) (f : List ℕ) (start at : ℕ) → start ≤ at → (from to : ℕ) (words : List ℕ) (r : Far)
    → Goes sh today f at from to words r → Goes sh today f start from to words r
further sh today f start at on from to words (far.Closed e) (reached, ahead) = (reached, omega arith)
further sh today f start at on from to words (far.Halt at' cut k x) halts = halts
further sh today f start at on from to words (far.Ended at' k x) ended = ended

-- ---- along the lines: judging is at line k, and a pass comes there too

module _ (sh : Sheet) (today : ℕ) (banks : Banks) (f : List ℕ) (start j : ℕ) (x₀ : Held) (at k : ℕ) (x : Held)
    (going : Going sh today banks f start j x₀ at k x) (carries : Carries sh today f start j x₀ at k x) where
  -- behind `start`
  onward : (r : Far) → ((from to : ℕ) (words : List ℕ) → Reached sh today f at k (at_item from to x) words → Goes sh today f start from to words r) → Through sh today f start j x₀ r
  onward r goes from to words reached = goes from to words (carries.comes from to words reached)

  pub along-end : length f ≤ at → Through sh today f start j x₀ (far.Ended at k x)
  along-end e = onward (far.Ended at k x) λ from to words reached. (reached, e)

  module _ (cut : Cut) (cuts : Cuts f at cut) (r : Result Turn Refused) (turns : (day : ℕ) → Banked sh day banks x → Turns sh day k (line_in f at cut.stop) x r) where
    says : Turns sh today k (line_in f at cut.stop) x r
    says = turns today going.banked

    pub along-item : Sane sh → (o : Turn) → r ≡ Ok o → (i : Judged) → o ≡ turn.Item i → (y : Held) → y ≡ held_more x i.amount i.warnings
        → Carries sh today f start j x₀ cut.next (k + 1) y
    along-item sane o e i p y q =
        let low : LowItem y = rw q (going-low sh today banks f start j x₀ at k x going cut cuts r turns sane o e i p) in
        record {
          comes = λ from to words reached.
              reached-on sh today f at k (at_item from to x) words (carries.comes from to words reached) cut cuts words (Some (at_item from to y))
              (item-more sh today k f at cut.stop x r says from to i (e ∙ ap Ok p) y q words) (at_item from to y) refl low;
        }

    pub along-stop : (n : Refused) → r ≡ Err n → Through sh today f start j x₀ (far.Halt at cut k x)
    along-stop n e =
        onward (far.Halt at cut k x) λ from to words reached.
        record { before = words; reached = reached; cuts = cuts; low = tt; leads = item-stops sh today k f at cut.stop x r says from to n e words }

    -- the group's end is g, and v is where that leads from its line on
    pub along-close : Sane sh → (o : Turn) → r ≡ Ok o → o ≡ turn.Close → (g : Result GroupEnd Refused) → g ≡ closed_as sh.strict cut.next (k + 1) x → (v : Far)
        → ((sh : Sheet) (today : ℕ) (f : List ℕ) → Sane sh → Closing sh today f at cut k x g → Through sh today f at k x v) → Through sh today f start j x₀ v
    along-close sane o e p g q v ends =
        let closing : Closing sh today f at cut k x g = record { cuts = cuts; low = going.begun.low; turns = rw (e ∙ ap Ok p) at says; comes = q } in
        onward v λ from to words reached. further sh today f start at going.on from to words v (ends sh today f sane closing from to words reached)

pub ruleset goes-along = (carries-start, along-end, along-item, along-stop, along-close)
