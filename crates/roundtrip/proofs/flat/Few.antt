-- Proper rows are few: at most 200,000 of an account file, and so 200,000,000. Assumes nothing.
use mathlib.Core.Path.{◌≡◌, sym}
use mathlib.Core.Bool.{true}
use Prim.Native.Nat.{ℕ, suc, ◌+◌, ◌*◌, ◌≤◌, ◌<◌}
use native.Mathlib.Omega.{arith}
use Rattle.base.proofs.Seek.{never}
use Rattle.paper.specs.Accounts.{Account}
use Rattle.paper.specs.Batch.{Item}
use Rattle.paper.specs.Proper.{Stage, need_file, need_group, need_item, any, file_due, group_due, item_due, Before, at_top, after_file, after_group, after_item}
use Rattle.roundtrip.specs.flat.Few.{AtMost, Few}

-- before the first row
pub few-top : Few at_top 0
few-top = record { files = omega arith; items = omega arith; rows = omega arith }

-- at any stage
at_most : (st : Stage) (files items n : ℕ) → items ≤ 99999 → AtMost st files items n → n ≤ 200000 * files
at_most need_file files items n l w = w
at_most need_group files items n l w = omega arith
at_most need_item files items n l w = omega arith
at_most any files items n l w = omega arith

pub few-rows : (b : Before) (n : ℕ) → Few b n → n ≤ 200000000
few-rows b n f = omega (arith, f.files, at_most b.stage b.files b.items n f.items f.rows)

-- one more row of each kind
file-at-most : (st : Stage) (files items n : ℕ) → file_due st ≡ true → items ≤ 99999 → AtMost st files items n → suc n + 199999 ≤ 200000 * (files + 1)
unfolding file_due
file-at-most need_file files items n d l w = omega arith
file-at-most need_group files items n d l w = never (sym d)
file-at-most need_item files items n d l w = never (sym d)
file-at-most any files items n d l w = omega arith

group-at-most : (st : Stage) (files items n : ℕ) → group_due st ≡ true → AtMost st files items n → suc n + 199998 ≤ 200000 * files + 2 * items
unfolding group_due
group-at-most need_file files items n d w = never (sym d)
group-at-most need_group files items n d w = omega arith
group-at-most need_item files items n d w = never (sym d)
group-at-most any files items n d w = omega arith

item-at-most : (st : Stage) (files items n : ℕ) → item_due st ≡ true → AtMost st files items n → suc n + 199999 ≤ 200000 * files + 2 * (items + 1)
unfolding item_due
item-at-most need_file files items n d w = never (sym d)
item-at-most need_group files items n d w = never (sym d)
item-at-most need_item files items n d w = omega arith
item-at-most any files items n d w = omega arith

module _ (b : Before) (n : ℕ) (f : Few b n) where
  pub few-file : file_due b.stage ≡ true → b.files < 1000 → Few (after_file b) (suc n)
  few-file d l =
      record {
        files = omega (arith, l);
        items = omega arith;
        rows = file-at-most b.stage b.files b.items n d f.items f.rows;
      }

  pub few-group : (payer : Account) → group_due b.stage ≡ true → Few (after_group b payer) (suc n)
  few-group payer d =
      record { files = f.files; items = f.items; rows = group-at-most b.stage b.files b.items n d f.rows }

  pub few-item : (x : Item) → item_due b.stage ≡ true → b.items < 99999 → Few (after_item b x) (suc n)
  few-item x d l =
      record { files = f.files; items = omega (arith, l); rows = item-at-most b.stage b.files b.items n d f.rows }
