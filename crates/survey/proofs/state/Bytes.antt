-- The bytes behind a row: a are those of what it closes, b those of its line. Assumes nothing.
use mathlib.Core.Path.{◌≡◌}
use Prim.Native.Nat.{ℕ, ◌+◌}
use native.Mathlib.Omega.{arith}
use lib.ListN.{length}
use Rattle.sheet.specs.declared.Sheet.{Sheet}
use Rattle.paper.specs.Numerals.{decimal}
use Rattle.paper.specs.Accounts.{Account}
use Rattle.paper.specs.FileLine.{spell_file}
use Rattle.paper.specs.GroupLine.{spell_group}
use Rattle.paper.specs.ItemLine.{spell_item}
use Rattle.paper.specs.Batch.{Item, a_file, a_group, an_item}
use Rattle.roundtrip.specs.flat.Count.{group_front, group_closing, file_closing, count}
use Rattle.roundtrip.proofs.flat.Lengths.{group-length}
use Rattle.rows.specs.walk.Walks.{stage_of}
use Rattle.survey.specs.declared.state.State.{State}
use Rattle.survey.specs.state.Row.{Adds}

module _ (st : State) (a b : ℕ) where
  pub file-adds : a ≡ file_closing (stage_of st.before.stage) st.before.sum → ((sh : Sheet) (kind number : ℕ) → b ≡ length (spell_file sh kind number))
      → (sh : Sheet) (kind number : ℕ) → Adds sh st (a_file kind number) (st.bytes + a + b + 2)
  unfolding count
  file-adds p q sh kind number = record { same = λ ts. rw (p, q sh kind number) (omega arith) }

  -- the line is counted without its total
  pub group-adds : a ≡ group_closing (stage_of st.before.stage) st.before.sum → (sh : Sheet) (payer : Account)
      → ((total date : ℕ) → b + length (decimal total) ≡ length (spell_group sh payer total date)) → (date : ℕ) → Adds sh st (a_group date payer) (st.bytes + a + b + 2)
  unfolding count
  group-adds p sh payer q date =
      let front : b ≡ group_front sh payer date = omega (arith, q 0 date, group-length sh payer 0 date) in
      record { same = λ ts. rw (p, front) (omega arith) }

pub item-adds : (st : State) (b : ℕ) (sh : Sheet) (x : Item) → b ≡ length (spell_item sh x) → Adds sh st (an_item x) (st.bytes + b + 2)
unfolding count
item-adds st b sh x q = record { same = λ ts. rw q (omega arith) }

pub ruleset adding = (file-adds, group-adds, item-adds)
