-- Rows that pass from some row on: what the tests of each kind of row ask, both ways. Assumes nothing.
use mathlib.Core.Path.{◌≡◌, refl, sym, ◌∙◌}
use mathlib.Core.Bool.{true}
use mathlib.Core.List.{List, [], ◌∷◌}
use Prim.Native.Nat.{ℕ, suc, ◌+◌, ◌≤◌, ◌<◌}
use native.Mathlib.Omega.{arith}
use lib.Dec.{ltb}
use borrow.Author.Tests.{ltb-true, lt-ltb, le-leb}
use Rattle.base.proofs.Cases.{both-pick}
use Rattle.base.proofs.Seek.{never}
use Rattle.sheet.specs.declared.Sheet.{Sheet}
use Rattle.sheet.specs.Sheets.{kind_allowed}
use Rattle.paper.specs.Days.{due_allowed}
use Rattle.paper.specs.Terms.{day_here, bank_due}
use Rattle.paper.specs.Accounts.{Account}
use Rattle.paper.specs.Batch.{Item, Group, AccountFile, Header, most14, Thing, a_file, a_group, an_item, group_things, things}
use Rattle.paper.specs.FileLine.{number_allowed}
use Rattle.paper.specs.Proper.{fine, need_group, need_item, file_due, group_due, item_due, may_stop, Before, rows_proper, after_file, after_group, after_item}
use Rattle.paper.specs.Carried.{Place, behind_file, behind_group, behind_item, item_carried, rows_carried}
use Rattle.paper.specs.Spells.{after, number_test}
use Rattle.paper.proofs.Verdicts.{check-on, check-only}
use Rattle.roundtrip.specs.linesound.Fits.{FileFits, GroupFits, ItemFits}
use Rattle.roundtrip.proofs.linesound.Items.{fits-proper, fits-carried, carried-rest, tests-fit}
use Rattle.roundtrip.proofs.linesound.Rows.{end-proper, file-proper, group-proper, item-proper}
use Rattle.roundtrip.specs.whole.Carries.{FourParts}

-- behind m items of the file and account files with numbers that begin with `seen`, in an account file of that kind and a group due on that day
abbrev pub placed : ℕ → List ℕ → ℕ → ℕ → Place
placed m seen kind date = record { items = m; seen = seen; kind = kind; date = date }

module _ (sh : Sheet) (today : ℕ) (h : Header) where
  -- the rows from row k on pass, which stand at p
  pub record Good (k : ℕ) (b : Before) (p : Place) (ts : List Thing) : Type 0 where
    pub is_proper : rows_proper k b ts ≡ fine
    pub is_carried : rows_carried sh today h k p ts ≡ fine
    pub has_parts : FourParts ts

  module _ (k : ℕ) (b : Before) (p : Place) where
    -- ---- no row

    pub end-only : Good k b p [] → may_stop b.stage ≡ true
    end-only g = end-proper k b g.is_proper

    pub end-also : may_stop b.stage ≡ true → Good k b p []
    unfolding rows_proper rows_carried
    end-also e = record { is_proper = check-on k 0 _ _ e; is_carried = refl; has_parts = tt }

    -- ---- an account file's row

    pub file-only : (kind number : ℕ) (ts : List Thing) → Good k b p (a_file kind number ∷ ts)
        → (file_due b.stage ≡ true) × (b.files < 1000) × FileFits sh (number_test sh (after h p.seen)) kind number
        × Good (suc k) (after_file b) (behind_file p kind number) ts
    unfolding rows_proper rows_carried number_test number_allowed
    file-only kind number ts g =
        let (d, few, kind-is, low, rest) = file-proper k b kind number ts g.is_proper in
        let (c0, c1) = check-only k 1 (kind_allowed sh kind) _ g.is_carried in
        let (c2, c3) = check-only k 2 (number_allowed sh.interval h p.seen number) _ c1 in (
          d,
          few,
          record { kind-proper = kind-is; kind-allowed = c0; number_low = omega arith; number-allowed = c2 },
          record { is_proper = rest; is_carried = c3; has_parts = g.has_parts },
        )

    pub file-also : (kind number : ℕ) (ts : List Thing) → file_due b.stage ≡ true → b.files < 1000
        → FileFits sh (number_test sh (after h p.seen)) kind number → Good (suc k) (after_file b) (behind_file p kind number) ts
        → Good k b p (a_file kind number ∷ ts)
    unfolding rows_proper rows_carried number_test number_allowed
    file-also kind number ts d few f g =
        record {
          is_proper =
              check-on k 0 _ _ (both-pick _ _ d (lt-ltb b.files 1000 few))
              ∙ check-on k 1 _ _ f.kind-proper
              ∙ check-on k 2 _ _ (lt-ltb number 1000000 (omega (arith, f.number_low)))
              ∙ g.is_proper;
          is_carried = check-on k 1 _ _ f.kind-allowed ∙ check-on k 2 _ _ f.number-allowed ∙ g.is_carried;
          has_parts = g.has_parts;
        }

    -- ---- a group's row

    pub group-only : (date : ℕ) (payer : Account) (ts : List Thing) → Good k b p (a_group date payer ∷ ts)
        → (group_due b.stage ≡ true) × ((total : ℕ) → total ≤ most14 → GroupFits sh today (day_here sh p.kind) payer total date)
        × Good (suc k) (after_group b payer) (behind_group p date) ts
    unfolding rows_proper rows_carried
    group-only date payer ts g =
        let (d, real, payer-is, rest) = group-proper k b date payer ts g.is_proper in
        let (c0, c1) = check-only k 1 (due_allowed (day_here sh p.kind) sh.early sh.ahead today date) _ g.is_carried in (
          d,
          λ total low. record { payer-proper = payer-is; total_low = omega arith; date_real = real; date_allowed = c0 },
          record { is_proper = rest; is_carried = c1; has_parts = g.has_parts },
        )

    pub group-also : (date : ℕ) (payer : Account) (ts : List Thing) → group_due b.stage ≡ true
        → (total : ℕ) → GroupFits sh today (day_here sh p.kind) payer total date → Good (suc k) (after_group b payer) (behind_group p date) ts
        → Good k b p (a_group date payer ∷ ts)
    unfolding rows_proper rows_carried
    group-also date payer ts d total f g =
        record {
          is_proper =
              check-on k 0 _ _ d ∙ check-on k 1 _ _ f.date_real ∙ check-on k 2 _ _ f.payer-proper ∙ g.is_proper;
          is_carried = check-on k 1 _ _ f.date_allowed ∙ g.is_carried;
          has_parts = g.has_parts;
        }

    -- ---- an item's row

    pub item-only : (x : Item) (ts : List Thing) → Good k b p (an_item x ∷ ts)
        → (b.items < 99999) × (b.sum + x.amount ≤ most14) × (p.items < sh.fileitems) × ItemFits sh (bank_due sh today p.kind p.date) b.single x
        × Good (suc k) (after_item b x) (behind_item p) ts
    unfolding rows_proper rows_carried
    item-only x ts g =
        let after = rows_proper (suc k) (after_item b x) ts in
        let others = rows_carried sh today h (suc k) (behind_item p) ts in
        let due = bank_due sh today p.kind p.date in
        let (_, few, small, e, rest) = item-proper k b x ts g.is_proper in
        let (c0, c1) = check-only k 0 (ltb p.items sh.fileitems) _ g.is_carried in
        let (c2, c3) = check-only k 5 (due x.bank) (item_carried sh k x others) c1 in (
          few,
          small,
          ltb-true p.items sh.fileitems c0,
          tests-fit sh due b.single x g.has_parts.0 k b.sum after e c2 k others c3,
          record { is_proper = rest; is_carried = carried-rest sh k x others c3; has_parts = g.has_parts.1 },
        )

    pub item-also : (x : Item) (ts : List Thing) → item_due b.stage ≡ true → b.items < 99999 → b.sum + x.amount ≤ most14 → p.items < sh.fileitems
        → ItemFits sh (bank_due sh today p.kind p.date) b.single x → Good (suc k) (after_item b x) (behind_item p) ts → Good k b p (an_item x ∷ ts)
    unfolding rows_proper rows_carried
    item-also x ts d few small all_few f g =
        record {
          is_proper =
              check-on k 0 _ _ (both-pick _ _ d (lt-ltb b.items 99999 few))
              ∙ fits-proper sh (bank_due sh today p.kind p.date) b.single x f k b.sum _ (le-leb (b.sum + x.amount) most14 small)
              ∙ g.is_proper;
          is_carried =
              check-on k 0 _ _ (lt-ltb p.items sh.fileitems all_few)
              ∙ check-on k 5 _ _ f.bank-due
              ∙ fits-carried sh (bank_due sh today p.kind p.date) b.single x f k _
              ∙ g.is_carried;
          has_parts = (f.texts.four, g.has_parts);
        }

    -- ---- an item is due, or a group, and neither comes

    pub none-item : (gs : List Group) (fs : List AccountFile) → b.stage ≡ need_item → Good k b p (group_things gs (things fs)) → ⊥
    unfolding group_things things group_due file_due may_stop
    none-item (g ∷ gs) fs e i = never (sym (rw e at (group-only g.date g.payer _ i).0))
    none-item [] (f ∷ fs) e i = never (sym (rw e at (file-only f.kind f.number _ i).0))
    none-item [] [] e i = never (sym (rw e at (end-only i)))

    pub none-group : (fs : List AccountFile) → b.stage ≡ need_group → Good k b p (things fs) → ⊥
    unfolding things file_due may_stop
    none-group (f ∷ fs) e i = never (sym (rw e at (file-only f.kind f.number _ i).0))
    none-group [] e i = never (sym (rw e at (end-only i)))
