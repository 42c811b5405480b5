-- An item that fits passes the tests of its row, and an item that passes them fits. Assumes nothing.
use mathlib.Core.Path.{◌≡◌, ◌∙◌}
use mathlib.Core.Bool.{Bool, true, false}
use Prim.Native.Nat.{ℕ, ◌+◌}
use lib.Dec.{leb, ltb}
use lib.ListN.{length}
use Rattle.base.specs.Pick.{pick}
use Rattle.base.proofs.Cases.{pick-false, pick-both, both-pick}
use Rattle.sheet.specs.declared.Sheet.{Sheet}
use Rattle.paper.specs.Accounts.{nobody, account_proper, is_nobody}
use Rattle.paper.specs.Amounts.{amount_proper}
use Rattle.paper.specs.BankField.{bank_proper, priority_proper, priority_carried}
use Rattle.paper.specs.Texts.{parts_proper, parts_carried, name_proper, name_carried}
use Rattle.paper.specs.Batch.{Item, most14}
use Rattle.paper.specs.Proper.{Verdict, fine, item_payer_proper, item_proper}
use Rattle.paper.specs.Carried.{item_carried}
use Rattle.paper.proofs.Verdicts.{check-on, check-only}
use Rattle.account.proofs.Proper.{nobody-is}
use Rattle.roundtrip.specs.linesound.Fits.{ItemFits}
use Rattle.roundtrip.proofs.linesound.Checks.{parts-on, parts-only, carried_on, carried-only}

module _ (sh : Sheet) (due : ℕ → Bool) (single : Bool) (x : Item) (f : ItemFits sh due single x) where
  -- row k, behind items of the group that amount to `before`
  pub fits-proper : (k before : ℕ) (rest : Verdict) → leb (before + x.amount) most14 ≡ true → item_proper k single before x rest ≡ rest
  unfolding item_proper
  fits-proper k before rest sum =
      check-on k 1 _ _ f.payer-proper
      ∙ check-on k 3 _ _ f.payee_proper
      ∙ check-on k 5 _ _ f.bank-proper
      ∙ check-on k 6 _ _ (both-pick _ _ f.amount-proper sum)
      ∙ check-on k 7 _ _ f.variable_low
      ∙ check-on k 8 _ _ f.specific_low
      ∙ check-on k 9 _ _ f.constant_low
      ∙ check-on k 10 _ _ f.priority-proper
      ∙ parts-on k 11 x.parts _ f.texts.parts-proper
      ∙ check-on k 19 _ _ f.texts.name-proper

  pub fits-carried : (k : ℕ) (rest : Verdict) → item_carried sh k x rest ≡ rest
  unfolding item_carried
  fits-carried k rest =
      check-on k 6 _ _ f.amount_carried
      ∙ check-on k 10 _ _ f.priority-carried
      ∙ carried_on sh.text k 11 0 x.parts _ f.texts.parts-carried
      ∙ check-on k 19 _ _ f.texts.name-carried

  -- in a collective group nobody is an item's payer
  pub fits-nobody : single ≡ false → x.payer ≡ nobody
  unfolding item_payer_proper
  fits-nobody e = nobody-is x.payer (rw (pick-false (account_proper x.payer) (is_nobody x.payer) e) at f.payer-proper)

-- what `item_proper` tests
pub record Tested (single : Bool) (before : ℕ) (x : Item) : Type 0 where
  pub payer : item_payer_proper single x.payer ≡ true
  pub payee : account_proper x.payee ≡ true
  pub bank : bank_proper x.bank ≡ true
  pub amount : amount_proper most14 x.amount ≡ true
  pub sum : leb (before + x.amount) most14 ≡ true
  pub variable : ltb x.variable 10000000000 ≡ true
  pub specific : ltb x.specific 10000000000 ≡ true
  pub constant : ltb x.constant 10000 ≡ true
  pub priority : priority_proper x.priority ≡ true
  pub parts : parts_proper x.parts ≡ true
  pub name : name_proper x.name ≡ true

pub tested : (k : ℕ) (single : Bool) (before : ℕ) (x : Item) (rest : Verdict) → item_proper k single before x rest ≡ fine → Tested single before x × (rest ≡ fine)
unfolding item_proper
tested k single before x rest e =
    let t1 = check-only k 1 (item_payer_proper single x.payer) _ e in
    let t2 = check-only k 3 (account_proper x.payee) _ t1.1 in
    let t3 = check-only k 5 (bank_proper x.bank) _ t2.1 in
    let t4 = check-only k 6 (pick (amount_proper most14 x.amount) (leb (before + x.amount) most14) false) _ t3.1 in
    let t5 = check-only k 7 (ltb x.variable 10000000000) _ t4.1 in
    let t6 = check-only k 8 (ltb x.specific 10000000000) _ t5.1 in
    let t7 = check-only k 9 (ltb x.constant 10000) _ t6.1 in
    let t8 = check-only k 10 (priority_proper x.priority) _ t7.1 in
    let t9 = parts-only k 11 x.parts _ t8.1 in
    let t0 = check-only k 19 (name_proper x.name) rest t9.1 in
    let m = pick-both (amount_proper most14 x.amount) (leb (before + x.amount) most14) t4.0 in (
      record {
        payer = t1.0;
        payee = t2.0;
        bank = t3.0;
        amount = m.0;
        sum = m.1;
        variable = t5.0;
        specific = t6.0;
        constant = t7.0;
        priority = t8.0;
        parts = t9.0;
        name = t0.0;
      },
      t0.1,
    )

-- what `item_carried` tests
record Held (sh : Sheet) (x : Item) : Type 0 where
  amount : amount_proper sh.itemmax x.amount ≡ true
  priority : priority_carried sh.priority x.priority ≡ true
  parts : parts_carried sh.text 0 x.parts ≡ true
  name : name_carried sh.text x.name ≡ true

held : (sh : Sheet) (k : ℕ) (x : Item) (rest : Verdict) → item_carried sh k x rest ≡ fine → Held sh x × (rest ≡ fine)
unfolding item_carried
held sh k x rest e =
    let t1 = check-only k 6 (amount_proper sh.itemmax x.amount) _ e in
    let t2 = check-only k 10 (priority_carried sh.priority x.priority) _ t1.1 in
    let t3 = carried-only sh.text k 11 0 x.parts _ t2.1 in
    let t4 = check-only k 19 (name_carried sh.text x.name) rest t3.1 in
    (record { amount = t1.0; priority = t2.0; parts = t3.0; name = t4.0 }, t4.1)

-- the rows behind an item are judged on, and the sum has passed
module _ (k : ℕ) (single : Bool) (before : ℕ) (x : Item) (rest : Verdict) (e : item_proper k single before x rest ≡ fine) where
  pub proper-rest : rest ≡ fine
  proper-rest = (tested k single before x rest e).1

  pub proper-sum : leb (before + x.amount) most14 ≡ true
  proper-sum = (tested k single before x rest e).0.sum

pub carried-rest : (sh : Sheet) (k : ℕ) (x : Item) (rest : Verdict) → item_carried sh k x rest ≡ fine → rest ≡ fine
carried-rest sh k x rest e = (held sh k x rest e).1

-- four parts, and every test passed
pub tests-fit : (sh : Sheet) (due : ℕ → Bool) (single : Bool) (x : Item) → length x.parts ≡ 4 → (k before : ℕ) (r : Verdict)
    → item_proper k single before x r ≡ fine → due x.bank ≡ true → (j : ℕ) (q : Verdict) → item_carried sh j x q ≡ fine → ItemFits sh due single x
tests-fit sh due single x four k before r e d j q g =
    let t = (tested k single before x r e).0 in
    let h = (held sh j x q g).0 in
    record {
      payer-proper = t.payer;
      payee_proper = t.payee;
      bank-proper = t.bank;
      bank-due = d;
      amount-proper = t.amount;
      amount_carried = h.amount;
      variable_low = t.variable;
      specific_low = t.specific;
      constant_low = t.constant;
      priority-proper = t.priority;
      priority-carried = h.priority;
      texts =
          record { four = four; parts-proper = t.parts; parts-carried = h.parts; name-proper = t.name; name-carried = h.name };
    }
