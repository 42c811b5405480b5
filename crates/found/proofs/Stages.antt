-- The answers of the readers of a stage: what is due there, when it is full, the causes, the total and what is known of a line. Assumes nothing.
use Rattle.std.proofs.Common.{◌≡◌, ℕ, Bool, true, false, eqb, leb, List, ◌∙◌}
use Rattle.base.specs.Pick.{pick}
use Rattle.sheet.specs.declared.Sheet.{Sheet}
use Rattle.paper.specs.Batch.{Header}
use Rattle.paper.specs.Entries.{Kind, head_line, file_line, group_line, item_line, group_end, file_end}
use Rattle.paper.specs.Judge.{is}
use Rattle.fileline.specs.declared.seen.Seen.{Seen}
use Rattle.tally.specs.Tally.{is_due, is_full}
use Rattle.judge.specs.declared.group.Counts.{Counts}
use Rattle.judge.specs.declared.group.Shelf.{Shelf}
use Rattle.judge.specs.declared.group.Held.{Held}
use Rattle.judge.specs.group.Stands.{open_of}
use Rattle.why.specs.declared.Finding.{Finding}
use Rattle.why.specs.Names.{group_total}
use Rattle.why.specs.Finding.{finding}
use Rattle.fault.specs.declared.known.Bearing.{Bearing}
use Rattle.course.specs.declared.Stage.{Stage}
use Rattle.course.specs.declared.Stage.TheVariants as stage
use Rattle.course.specs.Stands.{numbers_of}
use Rattle.found.specs.Numbers.{due_cause, full_cause, full_limit, total_found, at_total}
use Rattle.found.specs.Bearings.{bearing, bearing_at}

module _ (s : Stage) where
  module _ (h : Header) (l : List ℕ) where
    -- ---- what is due, and when it is full: k is the line's kind
    module _ (k : Kind) where
      pub due-first : s ≡ stage.First → (r : Bool) → r ≡ is head_line k → r ≡ is_due (numbers_of h l s) k
      unfolding is_due
      due-first e r f = f ∙ rw e

      pub due-file : (c : Counts) → s ≡ stage.File c → (r : Bool) → r ≡ is file_line k → r ≡ is_due (numbers_of h l s) k
      unfolding is_due
      due-file c e r f = f ∙ rw e

      pub due-group : (c : Counts) (x : Shelf) → s ≡ stage.Group c x → (r : Bool)
          → r ≡ pick (is group_line k) true (pick (is file_end k) (pick (eqb x.groups 0) false true) false) → r ≡ is_due (numbers_of h l s) k
      unfolding is_due
      due-group c x e r f = f ∙ rw e

      pub due-item : (x : Held) → s ≡ stage.Item x → (r : Bool)
          → r ≡ pick (is item_line k) true (pick (is group_end k) (pick (eqb x.opened.count 0) false true) false) → r ≡ is_due (numbers_of h l s) k
      unfolding is_due
      due-item x e r f = f ∙ rw e

      module _ (sh : Sheet) where
        pub full-first : s ≡ stage.First → false ≡ is_full sh (numbers_of h l s) k
        unfolding is_full
        full-first e = rw e

        pub full-file : (c : Counts) → s ≡ stage.File c → leb 1000 c.files ≡ is_full sh (numbers_of h l s) k
        unfolding is_full
        full-file c e = rw e

        pub full-group : (c : Counts) (x : Shelf) → s ≡ stage.Group c x → false ≡ is_full sh (numbers_of h l s) k
        unfolding is_full
        full-group c x e = rw e

        pub full-item : (x : Held) → s ≡ stage.Item x → (r : Bool)
            → r ≡ pick (is item_line k) (pick (leb 99999 x.shelf.items) true (leb sh.fileitems x.counts.items)) false → r ≡ is_full sh (numbers_of h l s) k
        unfolding is_full
        full-item x e r f = f ∙ rw e

    -- ---- the causes

    pub cause-first : s ≡ stage.First → 30 ≡ due_cause (numbers_of h l s)
    unfolding due_cause
    cause-first e = rw e

    pub cause-file : (c : Counts) → s ≡ stage.File c → (r : ℕ) → r ≡ pick (eqb c.files 0) 31 36 → r ≡ due_cause (numbers_of h l s)
    unfolding due_cause
    cause-file c e r f = f ∙ rw e

    pub cause-group : (c : Counts) (x : Shelf) → s ≡ stage.Group c x → (r : ℕ) → r ≡ pick (eqb x.groups 0) 32 35 → r ≡ due_cause (numbers_of h l s)
    unfolding due_cause
    cause-group c x e r f = f ∙ rw e

    pub cause-item : (x : Held) → s ≡ stage.Item x → (r : ℕ) → r ≡ pick (eqb x.opened.count 0) 33 34 → r ≡ due_cause (numbers_of h l s)
    unfolding due_cause
    cause-item x e r f = f ∙ rw e

    pub limit-first : s ≡ stage.First → 150 ≡ full_cause (numbers_of h l s)
    unfolding full_cause
    limit-first e = rw e

    pub limit-file : (c : Counts) → s ≡ stage.File c → 150 ≡ full_cause (numbers_of h l s)
    unfolding full_cause
    limit-file c e = rw e

    pub limit-group : (c : Counts) (x : Shelf) → s ≡ stage.Group c x → 150 ≡ full_cause (numbers_of h l s)
    unfolding full_cause
    limit-group c x e = rw e

    pub limit-item : (x : Held) → s ≡ stage.Item x → (r : ℕ) → r ≡ pick (leb 99999 x.shelf.items) 151 152 → r ≡ full_cause (numbers_of h l s)
    unfolding full_cause
    limit-item x e r f = f ∙ rw e

    module _ (sh : Sheet) where
      pub most-first : s ≡ stage.First → 1000 ≡ full_limit sh (numbers_of h l s)
      unfolding full_limit
      most-first e = rw e

      pub most-file : (c : Counts) → s ≡ stage.File c → 1000 ≡ full_limit sh (numbers_of h l s)
      unfolding full_limit
      most-file c e = rw e

      pub most-group : (c : Counts) (x : Shelf) → s ≡ stage.Group c x → 1000 ≡ full_limit sh (numbers_of h l s)
      unfolding full_limit
      most-group c x e = rw e

      pub most-item : (x : Held) → s ≡ stage.Item x → (r : ℕ) → r ≡ pick (leb 99999 x.shelf.items) 99999 sh.fileitems
          → r ≡ full_limit sh (numbers_of h l s)
      unfolding full_limit
      most-item x e r f = f ∙ rw e

    -- ---- the total

    module _ (f : List ℕ) (r : Finding) where
      pub total_first : s ≡ stage.First → r ≡ finding 10 100 0 0 0 group_total 0 0 → r ≡ at_total f (numbers_of h l s)
      unfolding at_total
      total_first e g = g ∙ rw e

      pub total-file : (c : Counts) → s ≡ stage.File c → r ≡ finding 10 100 0 0 0 group_total 0 0 → r ≡ at_total f (numbers_of h l s)
      unfolding at_total
      total-file c e g = g ∙ rw e

      pub total-group : (c : Counts) (x : Shelf) → s ≡ stage.Group c x → r ≡ finding 10 100 0 0 0 group_total 0 0 → r ≡ at_total f (numbers_of h l s)
      unfolding at_total
      total-group c x e g = g ∙ rw e

      pub total-item : (x : Held) → s ≡ stage.Item x → r ≡ total_found f (open_of x.opened) → r ≡ at_total f (numbers_of h l s)
      unfolding at_total
      total-item x e g = g ∙ rw e

  -- ---- what is known of a line

  module _ (from to : ℕ) (seen : Seen) (r : Bearing) where
    pub bear-first : s ≡ stage.First → r ≡ bearing 0 0 false from to seen → r ≡ bearing_at s from to seen
    bear-first e g = g ∙ rw e

    pub bear-file : (c : Counts) → s ≡ stage.File c → r ≡ bearing 0 0 false from to seen → r ≡ bearing_at s from to seen
    bear-file c e g = g ∙ rw e

    pub bear-group : (c : Counts) (x : Shelf) → s ≡ stage.Group c x → r ≡ bearing x.kind 0 false from to seen → r ≡ bearing_at s from to seen
    bear-group c x e g = g ∙ rw e

    pub bear-item : (x : Held) → s ≡ stage.Item x → r ≡ bearing x.shelf.kind x.opened.date x.opened.single from to seen → r ≡ bearing_at s from to seen
    bear-item x e g = g ∙ rw e

pub ruleset dues = (due-first, due-file, due-group, due-item)

pub ruleset fulls = (full-first, full-file, full-group, full-item)

pub ruleset causes = (cause-first, cause-file, cause-group, cause-item)

pub ruleset limits = (limit-first, limit-file, limit-group, limit-item)

pub ruleset mosts = (most-first, most-file, most-group, most-item)

pub ruleset totals = (total_first, total-file, total-group, total-item)

pub ruleset bears = (bear-first, bear-file, bear-group, bear-item)
