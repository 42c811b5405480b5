-- What a row that passed is known to be: each of its fields passed, so its texts lie inside what was lent and nothing is too large. Assumes nothing.
use mathlib.Core.Path.{◌≡◌, refl, sym, ◌∙◌}
use mathlib.Core.Bool.{Bool, true, false}
use mathlib.Core.List.{List, [], ◌∷◌}
use Prim.Native.Nat.{ℕ, ◌+◌, ◌≤◌}
use native.Mathlib.Omega.{arith}
use lib.Dec.{ltb, leb}
use lib.ListN.{length, take, drop, length-take, length-drop}
use borrow.Author.Tests.{ltb-true, leb-true}
use Rattle.base.specs.Pick.{pick}
use Rattle.base.specs.Seek.{all}
use Rattle.base.proofs.Cases.{by-test, pick-false, pick-both, pick-not}
use Rattle.paper.specs.Bytes.{is_text}
use Rattle.paper.specs.Amounts.{amount_proper}
use Rattle.paper.specs.BankField.{bank_proper, priority_proper}
use Rattle.paper.specs.Texts.{part_proper, name_proper}
use Rattle.paper.specs.Batch.{most14}
use Rattle.paper.specs.Proper.{Verdict, fine, check, parts_from, item_proper}
use Rattle.paper.specs.Rows.{reference_proper}
use Rattle.paper.proofs.Verdicts.{check-only, name-short}
use Rattle.text.specs.declared.span.Span.{Span}
use Rattle.std.proofs.Common.{Result, Ok}
use Rattle.rows.specs.declared.field.Field.{Field}
use Rattle.rows.specs.declared.read.ItemRow.{ItemRow}
use Rattle.rows.specs.read.Told.{text_of_span, item_of}
use Rattle.text.specs.span.Held.{Within}
use Rattle.rows.specs.read.Sized.{Sized}
use Rattle.rows.specs.proper.Stages.{ItemTested}
use Rattle.rows.proofs.read.Laws.{text-within}

-- ---- a text

-- the byte that stands for a text outside is none
no_name : name_proper (0 ∷ []) ≡ false
unfolding name_proper all is_text pick
no_name = refl

module _ (t : List ℕ) (p : Span) where
  pub name-in : name_proper (text_of_span t p) ≡ true → Within t p × (p.len ≤ 35)
  unfolding text_of_span
  name-in e =
      by-test (leb (p.at + p.len) (length t))
      (λ h.
      let w : Within t p = leb-true _ _ h in
      let s = name-short _ (rw (text-within t p w) at e) in
      (w, omega (arith, length-take p.len (drop p.at t), length-drop p.at t)))
      (λ h. absurd (let z = rw (pick-false (take p.len (drop p.at t)) (0 ∷ []) h, no_name) at e in let y : ◌≡◌ {A = ℕ} 0 1 = cc in omega arith))

  pub part_in : part_proper (text_of_span t p) ≡ true → Within t p × (p.len ≤ 35)
  unfolding part_proper
  part_in e = name-in (pick-both _ _ e).0

-- ---- an amount

pub amount-low : (max v : ℕ) (r : Bool) → r ≡ amount_proper max v → r ≡ true → v ≤ max
unfolding amount_proper
amount-low max v r e h = leb-true v max (pick-not (ltb v 1) (leb v max) (sym e ∙ h)).1

-- ---- an item

module _ (t : List ℕ) (x : ItemRow) (single : Bool) (sum : ℕ) where
  -- where all passes, so does what is tested behind the item
  pub item-sized : (k : ℕ) (rest : Verdict) → item_proper k single sum (item_of t x) rest ≡ fine → Sized t x × (sum + x.amount ≤ most14) × (rest ≡ fine)
  unfolding item_proper parts_from amount_proper bank_proper priority_proper
  item-sized k rest e =
      let a = check-only k 1 _ _ e in
      let b = check-only k 3 _ _ a.1 in
      let c = check-only k 5 _ _ b.1 in
      let d = check-only k 6 _ _ c.1 in
      let f = check-only k 7 _ _ d.1 in
      let g = check-only k 8 _ _ f.1 in
      let h = check-only k 9 _ _ g.1 in
      let i = check-only k 10 _ _ h.1 in
      let p1 = check-only k 11 _ _ i.1 in
      let p2 = check-only k 13 _ _ p1.1 in
      let p3 = check-only k 15 _ _ p2.1 in
      let p4 = check-only k 17 _ _ p3.1 in
      let n = check-only k 19 _ _ p4.1 in
      let m = pick-both _ _ d.0 in
      let q1 = part_in t x.part1 p1.0 in
      let q2 = part_in t x.part2 p2.0 in
      let q3 = part_in t x.part3 p3.0 in
      let q4 = part_in t x.part4 p4.0 in
      let q5 = name-in t x.name n.0 in
      let variable = ltb-true x.variable 10000000000 f.0 in
      let specific = ltb-true x.specific 10000000000 g.0 in
      let constant = ltb-true x.constant 10000 h.0 in (
        record {
          inside = record { first = q1.0; second = q2.0; third = q3.0; fourth = q4.0; named = q5.0 };
          short1 = q1.1;
          short2 = q2.1;
          short3 = q3.1;
          short4 = q4.1;
          shortname = q5.1;
          lowbank = leb-true _ _ (pick-not _ _ c.0).1;
          lowamount = leb-true _ _ (pick-not _ _ m.0).1;
          lowvariable = omega arith;
          lowspecific = omega arith;
          lowconstant = omega arith;
          lowpriority = leb-true _ _ (pick-not _ _ i.0).1;
        },
        leb-true _ _ m.1,
        n.1,
      )

  -- as the code tells it, of a row that passed all tests
  module _ (r : Result (Unit {0}) Field) (tested : ItemTested t x single sum r) (e : r ≡ Ok tt) where
    passed : Sized t x × (sum + x.amount ≤ most14) × (check 0 21 (reference_proper x.reference) fine ≡ fine)
    passed = item-sized 0 _ (sym ((rw e at tested.same) 0 fine))

    pub sized-when : Sized t x × (sum + x.amount ≤ most14)
    sized-when = (passed.0, passed.1)

    pub numbered-when : reference_proper x.reference ≡ true
    numbered-when = (check-only 0 21 _ _ passed.2).0
