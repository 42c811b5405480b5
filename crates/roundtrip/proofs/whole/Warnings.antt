-- The warnings of a canonical file: one for each group that is due on a past day, where the sheet warns of it, but none in a collection.
-- Assumes nothing.
use mathlib.Core.Path.{◌≡◌, refl}
use mathlib.Core.List.{List, [], ◌∷◌}
use Prim.Native.Nat.{ℕ, ◌+◌}
use native.Mathlib.Omega.{arith}
use Rattle.sheet.specs.declared.Sheet.{Sheet}
use Rattle.paper.specs.Accounts.{is_nobody}
use Rattle.paper.specs.Batch.{Item, Group, AccountFile, Batch, Header}
use Rattle.paper.specs.FileLine.{series}
use Rattle.paper.specs.Spells.{Context, for_item, Due, item_dues, group_dues, file_dues, dues}
use Rattle.roundtrip.specs.whole.Carries.{past_groups, past_warnings}
use Rattle.roundtrip.proofs.whole.Lines.{warned}

module _ (sh : Sheet) (today : ℕ) where
  warned-items : (c : Context) (xs : List Item) (r : List Due) → warned sh today (item_dues c xs r) ≡ warned sh today r
  unfolding item_dues warned
  warned-items c [] r = omega arith
  warned-items c (x ∷ xs) r = omega (arith, warned-items c xs r)

  warned-groups : (kind : ℕ) (gs : List Group) (r : List Due) → warned sh today (group_dues kind gs r) ≡ past_groups sh today kind gs + warned sh today r
  unfolding group_dues warned past_groups
  warned-groups kind [] r = omega arith
  warned-groups kind (g ∷ gs) r = omega (arith, warned-items (for_item kind g.date (is_nobody g.payer)) g.items (group_dues kind gs r), warned-groups kind gs r)

  warned-files : (h : Header) (seen : List ℕ) (fs : List AccountFile) → warned sh today (file_dues h seen fs) ≡ past_warnings sh today fs
  unfolding file_dues warned past_warnings
  warned-files h seen [] = refl
  warned-files h seen (f ∷ fs) =
      omega (arith, warned-groups f.kind f.groups (file_dues h (series f.number ∷ seen) fs), warned-files h (series f.number ∷ seen) fs)

  pub warned-batch : (h : Header) (b : Batch) → warned sh today (dues h b) ≡ past_warnings sh today b
  unfolding dues warned
  warned-batch h b = omega (arith, warned-files h [] b)
