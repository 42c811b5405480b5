-- What a row leads to, by whether it may come here and by the answer of its fields' tests. Assumes nothing.
use mathlib.Core.Path.{◌≡◌, refl, sym, ◌∙◌}
use mathlib.Core.Bool.{Bool, true, false, not}
use mathlib.Core.List.{List, ◌∷◌}
use Prim.Native.Nat.{ℕ, suc, ◌+◌, ◌<◌}
use native.Mathlib.Omega.{arith}
use lib.Dec.{ltb}
use borrow.Author.Tests.{ltb-true, not-false}
use Rattle.base.specs.Pick.{pick}
use Rattle.base.proofs.Cases.{by-test, pick-both}
use Rattle.paper.specs.Days.{real_day}
use Rattle.paper.specs.Accounts.{Account, is_nobody}
use Rattle.paper.specs.Batch.{Thing, a_file, a_group}
use Rattle.paper.specs.Proper as paper
use Rattle.paper.specs.Proper.{Verdict, check, file_due, group_due, item_due, kind_proper, payer_proper, after_item, item_stands, rows_proper}
use Rattle.paper.specs.Rows.{reference_proper}
use Rattle.std.proofs.Common.{Option, None, Result, Ok, Err}
use Rattle.rows.specs.declared.field.Field.{Field}
use Rattle.rows.specs.declared.field.Field.TheVariants.{Row}
use Rattle.rows.specs.declared.read.ItemRow.{ItemRow}
use Rattle.rows.specs.declared.read.Row as read
use Rattle.rows.specs.declared.walk.Stage.TheVariants as stage
use Rattle.rows.specs.declared.walk.Before.{Before}
use Rattle.rows.specs.read.After.{after}
use Rattle.rows.specs.read.Told.{told, item_of, told_item}
use Rattle.rows.specs.proper.Stages.{ItemTested}
use Rattle.rows.specs.walk.Walks.{stage_of, before_of, Walks}
use Rattle.rows.proofs.read.Fields.{passes, fails}
use Rattle.rows.proofs.proper.Laws.{sized-when, numbered-when}

-- In each section t is whether the row may come here, and c is the answer of its fields' tests.

-- ---- an account file

module _ (b : Before) (kind number : ℕ) (t : Bool) (due : t ≡ pick (file_due (stage_of b.stage)) (ltb b.files 1000) false) where
  pub file-late : not t ≡ true → Walks b (a_file kind number) (Err Row)
  unfolding rows_proper
  file-late e = record { same = λ k ts. fails k 0 _ _ t _ due e refl; leads = tt }

  module _ (here : not t ≡ false) where
    pub file-fits : b.files + 1 < 18446744073709551616
    file-fits = let few = ltb-true b.files 1000 (pick-both _ _ (sym due ∙ not-false t here)).1 in omega arith

    module _ (c : Result (Unit {0}) Field) (tested : (k : ℕ) (rest : Verdict) → after k c rest ≡ check k 1 (kind_proper kind) (check k 2 (ltb number 1000000) rest)) where
      pub file-wrong : (field : Field) → c ≡ Err field → Walks b (a_file kind number) (Err field)
      unfolding rows_proper
      file-wrong field e = record { same = λ k ts. passes k 0 _ _ t _ due here ((rw e at tested) k _); leads = tt }

      pub file-on : c ≡ Ok tt
          → Walks b (a_file kind number) (Ok (record { stage = stage.NeedGroup; files = b.files + 1; items = 0; single = false; sum = 0 }))
      unfolding rows_proper
      file-on e = record { same = λ k ts. passes k 0 _ _ t _ due here ((rw e at tested) k _); leads = refl }

-- ---- a group

module _ (b : Before) (date : ℕ) (payer : Account) (t : Bool) (due : t ≡ group_due (stage_of b.stage)) where
  pub group-late : not t ≡ true → Walks b (a_group date payer) (Err Row)
  unfolding rows_proper
  group-late e = record { same = λ k ts. fails k 0 _ _ t _ due e refl; leads = tt }

  module _ (here : not t ≡ false) (c : Result (Unit {0}) Field) (tested : (k : ℕ) (rest : Verdict) → after k c rest ≡ check k 1 (real_day date) (check k 2 (payer_proper payer) rest)) where
    pub group-wrong : (field : Field) → c ≡ Err field → Walks b (a_group date payer) (Err field)
    unfolding rows_proper
    group-wrong field e = record { same = λ k ts. passes k 0 _ _ t _ due here ((rw e at tested) k _); leads = tt }

    pub group-on : c ≡ Ok tt → (single : Bool) → single ≡ is_nobody payer
        → Walks b (a_group date payer) (Ok (record { stage = stage.NeedItem; files = b.files; items = b.items; single = single; sum = 0 }))
    unfolding rows_proper
    group-on e single s = record { same = λ k ts. rw s (passes k 0 _ _ t _ due here ((rw e at tested) k _)); leads = rw s }

-- ---- an item

-- its reference is the last that is tested
referred : (texts : List ℕ) (x : ItemRow) (k : ℕ) (b : paper.Before) (ts : List Thing)
    → item_stands k b (item_of texts x) (check k 21 (reference_proper x.reference) (rows_proper (suc k) (after_item b (item_of texts x)) ts)) ≡ rows_proper k b (told_item texts x ∷ ts)
unfolding rows_proper check pick
referred texts x k b ts = by-test (reference_proper x.reference) (λ e. rw e) (λ e. rw e)

module _ (b : Before) (texts : List ℕ) (x : ItemRow) (t : Bool) (due : t ≡ pick (item_due (stage_of b.stage)) (ltb b.items 99999) false) where
  pub item-late : not t ≡ true → Walks b (told_item texts x) (Err Row)
  item-late e = record { same = λ k ts. fails k 0 _ _ t _ due e refl ∙ referred texts x k (before_of b) ts; leads = tt }

  module _ (here : not t ≡ false) where
    pub item-fits : b.items + 1 < 18446744073709551616
    item-fits = let few = ltb-true b.items 99999 (pick-both _ _ (sym due ∙ not-false t here)).1 in omega arith

    module _ (c : Result (Unit {0}) Field) (tested : ItemTested texts x b.single b.sum c) where
      pub sum_fits : c ≡ Ok tt → b.sum + x.amount < 18446744073709551616
      sum_fits e = omega (arith, (sized-when texts x b.single b.sum c tested e).1)

      pub item-wrong : (field : Field) → c ≡ Err field → Walks b (told_item texts x) (Err field)
      item-wrong field e = record { same = λ k ts. passes k 0 _ _ t _ due here ((rw e at tested.same) k _) ∙ referred texts x k (before_of b) ts; leads = tt }

      pub item_on : c ≡ Ok tt
          → Walks b (told_item texts x) (Ok (record { stage = stage.Any; files = b.files; items = b.items + 1; single = b.single; sum = b.sum + x.amount }))
      unfolding pick
      item_on e =
          record {
            same = λ k ts. passes k 0 _ _ t _ due here ((rw e at tested.same) k _) ∙ referred texts x k (before_of b) ts;
            leads = rw (numbered-when texts x b.single b.sum c tested e);
          }

pub ruleset fits = (file-fits, item-fits, sum_fits)

pub ruleset steps = (file-late, file-wrong, file-on, group-late, group-wrong, group-on, item-late, item-wrong, item_on)

-- ---- a row of no known kind

pub row-strange : (b : Before) (texts : List ℕ) (r : Option read.Row) → r ≡ None → Walks b (told texts r) (Err Row)
unfolding rows_proper
row-strange b texts r e = rw e (record { same = λ k ts. refl; leads = tt })
