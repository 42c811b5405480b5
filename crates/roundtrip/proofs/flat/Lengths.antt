-- The count of rows in order is the length of their lines. Assumes nothing.
use mathlib.Core.Path.{◌≡◌, sym, ap, ◌∙◌}
use mathlib.Core.List.{List, [], ◌∷◌, ◌++◌}
use Prim.Native.Nat.{ℕ, ◌+◌}
use native.Mathlib.Nat.{add-zero, zero-add, add_assoc}
use native.Mathlib.Omega.{arith}
use lib.ListN.{length, length-append}
use Rattle.base.proofs.Seek.{never}
use Rattle.sheet.specs.declared.Sheet.{Sheet}
use Rattle.paper.specs.Numerals.{decimal}
use Rattle.paper.specs.Days.{spell_day}
use Rattle.paper.specs.Accounts.{Account}
use Rattle.paper.specs.Batch.{Item, Header, Thing, a_file, a_group, an_item, misnumbered, strange, batch_of}
use Rattle.paper.specs.Proper.{Stage, need_file, need_group, need_item, any, file_due, group_due, item_due, may_stop, fine, batch_proper}
use Rattle.paper.specs.FirstLine.{spell_first}
use Rattle.paper.specs.FileLine.{spell_file}
use Rattle.paper.specs.GroupLine.{spell_payer, spell_group}
use Rattle.paper.specs.ItemLine.{spell_item}
use Rattle.paper.specs.Canonical.{canon}
use Rattle.roundtrip.specs.flat.Flat.{line_of, group_ends, file_ends, group_sum, flat}
use Rattle.roundtrip.specs.flat.Order.{Ordered}
use Rattle.roundtrip.specs.flat.Count.{group_front, owed, group_closing, file_closing, count}
use Rattle.roundtrip.proofs.flat.Order.{batch-ordered}
use Rattle.roundtrip.proofs.flat.Canon.{canon-flat}

-- a line with its CR LF
line-length : (s r : List ℕ) → length (line_of s ++ r) ≡ length s + 2 + length r
line-length s r = omega (arith, length-append (line_of s) r, length-append s (13 ∷ 10 ∷ []))

-- a group's line, and its total
pub group-length : (sh : Sheet) (payer : Account) (total date : ℕ) → length (spell_group sh payer total date) ≡ group_front sh payer date + length (decimal total)
unfolding spell_group group_front
group-length sh payer total date =
    omega (
      arith,
      length-append (spell_payer sh.emptypayer payer) (decimal total ++ (32 ∷ spell_day date)),
      length-append (decimal total) (32 ∷ spell_day date),
      length-append (spell_payer sh.emptypayer payer) (32 ∷ spell_day date),
    )

module _ (sh : Sheet) where
  -- a group's row, with the digits of its total behind it
  group-turn : (date : ℕ) (payer : Account) (n : ℕ) (ts : List Thing) → n ≡ length (decimal (0 + group_sum ts)) + length (flat sh need_item ts)
      → (group_front sh payer date + 2) + n ≡ length (line_of (spell_group sh payer (group_sum ts) date) ++ flat sh need_item ts)
  group-turn date payer n ts e =
      let f : n ≡ length (decimal (group_sum ts)) + length (flat sh need_item ts) = rw (zero-add (group_sum ts)) at e in
      omega (arith, f, line-length (spell_group sh payer (group_sum ts) date) (flat sh need_item ts), group-length sh payer (group_sum ts) date)

  -- an item's row: its amount is in the sum
  item-turn : (sum : ℕ) (x : Item) (ts : List Thing) (n : ℕ) → n ≡ length (decimal (sum + x.amount + group_sum ts)) + length (flat sh any ts)
      → (length (spell_item sh x) + 2) + n ≡ length (decimal (sum + (x.amount + group_sum ts))) + length (line_of (spell_item sh x) ++ flat sh any ts)
  item-turn sum x ts n e =
      let f : n ≡ length (decimal (sum + (x.amount + group_sum ts))) + length (flat sh any ts) = rw (add_assoc sum x.amount (group_sum ts)) at e in
      omega (arith, f, line-length (spell_item sh x) (flat sh any ts))

  -- what is left to count are the lines of the rows and, where a group is open, the digits of its total
  pub count-flat : (st : Stage) (sum : ℕ) (ts : List Thing) → Ordered st ts → count sh st sum ts ≡ owed st (sum + group_sum ts) + length (flat sh st ts)
  unfolding flat count owed group_sum file_ends group_ends file_closing group_closing may_stop file_due group_due item_due
  count-flat need_file sum [] o = never (sym o)
  count-flat need_group sum [] o = never (sym o)
  count-flat need_item sum [] o = never (sym o)
  count-flat any sum [] o = rw add-zero
  count-flat need_file sum (a_file kind number ∷ ts) (d, o) =
      omega (arith, count-flat need_group 0 ts o, line-length (spell_file sh kind number) (flat sh need_group ts))
  count-flat need_group sum (a_file kind number ∷ ts) (d, o) = never (sym d)
  count-flat need_item sum (a_file kind number ∷ ts) (d, o) = never (sym d)
  count-flat any sum (a_file kind number ∷ ts) (d, o) =
      rw add-zero (omega (arith, count-flat need_group 0 ts o, line-length (spell_file sh kind number) (flat sh need_group ts)))
  count-flat need_file sum (a_group date payer ∷ ts) (d, _, o) = never (sym d)
  count-flat need_group sum (a_group date payer ∷ ts) (d, _, o) = omega (arith, group-turn date payer _ ts (count-flat need_item 0 ts o))
  count-flat need_item sum (a_group date payer ∷ ts) (d, _, o) = never (sym d)
  count-flat any sum (a_group date payer ∷ ts) (d, _, o) = rw add-zero (omega (arith, group-turn date payer _ ts (count-flat need_item 0 ts o)))
  count-flat need_file sum (an_item x ∷ ts) (d, o) = never (sym d)
  count-flat need_group sum (an_item x ∷ ts) (d, o) = never (sym d)
  count-flat need_item sum (an_item x ∷ ts) (d, o) = item-turn sum x ts _ (count-flat any (sum + x.amount) ts o)
  count-flat any sum (an_item x ∷ ts) (d, o) = item-turn sum x ts _ (count-flat any (sum + x.amount) ts o)
  count-flat st sum (misnumbered x ∷ ts) o = absurd o
  count-flat st sum (strange ∷ ts) o = absurd o

  pub flat-length : (ts : List Thing) → batch_proper ts ≡ fine → length (flat sh need_file ts) ≡ count sh need_file 0 ts
  unfolding owed
  flat-length ts e = omega (arith, count-flat need_file 0 ts (batch-ordered ts e))

  -- the length of the canonical file
  pub canon-length : (h : Header) (ts : List Thing) → batch_proper ts ≡ fine → length (canon sh h (batch_of ts)) ≡ length (spell_first sh h) + 2 + count sh need_file 0 ts
  canon-length h ts e = ap length (canon-flat sh h ts e) ∙ line-length (spell_first sh h) (flat sh need_file ts) ∙ rw (flat-length ts e)
