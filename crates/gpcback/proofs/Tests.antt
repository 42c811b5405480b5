-- A thing that can be written passes the tests of its row, and what passes them is as it was, with numbers that fit. Assumes nothing.
use mathlib.Core.Path.{◌≡◌, refl, sym, ap, ◌∙◌}
use mathlib.Core.Bool.{Bool, true, false}
use Prim.Native.Nat.{ℕ, ◌≤◌, ◌<◌}
use lib.Dec.{ltb, leb}
use borrow.Author.Tests.{ltb-true, leb-true, lt-ltb, le-leb}
use Rattle.base.specs.Pick.{pick}
use Rattle.base.proofs.Cases.{pick_true}
use Rattle.paper.specs.Accounts.{Account}
use Rattle.paper.specs.Batch.{most14}
use Rattle.paper.specs.Entries.{Said, got, no}
use Rattle.gpc.specs.Signed.{Signed, Fourteen}
use Rattle.gpc.specs.Turnovers.{is_code, most12}
use Rattle.gpc.specs.Records.{Head, Movement, Thing, a_head, a_movement, strange, head_is, movement_is, said}
use Rattle.gpc.specs.StatementRows.{test, account_test, signed_test, head_tested, movement_tested, tested}
use Rattle.gpcback.specs.Proper.{ProperAccount, ProperHead, ProperMovement, Proper}
use Rattle.gpcback.proofs.ReadFields.{got_same, no-got}
use Rattle.gpcback.proofs.Sound.{no_none, two-kinds}

-- ---- tests that pass

module _ {A : Type 0} where
  test-passed : (i : ℕ) (ok : Bool) (rest : Said A) → ok ≡ true → test i ok rest ≡ rest
  unfolding test
  test-passed i ok rest e = pick_true rest (no 51 i) e

  account-passed : (i j : ℕ) (a : Account) (rest : Said A) → ProperAccount a → account_test i j a rest ≡ rest
  unfolding account_test
  account-passed i j a rest p =
      test-passed i _ _ (lt-ltb a.prefix 1000000 p.prefix) ∙ test-passed j _ rest (lt-ltb a.base 10000000000 p.base)

  signed-passed : (i : ℕ) (x : Signed) (rest : Said A) → Fourteen x → signed_test i x rest ≡ rest
  unfolding signed_test
  signed-passed i x rest f = test-passed i _ rest (le-leb x.size most14 f.small)

head_passed : (h : Head) → ProperHead h → head_tested h ≡ got h
unfolding head_tested
head_passed h p =
    account-passed 1 2 h.account _ p.account
    ∙ signed-passed 3 h.old _ p.old
    ∙ signed-passed 4 h.new _ p.new
    ∙ signed-passed 5 h.debit _ p.debit
    ∙ signed-passed 6 h.credit _ p.credit

movement-passed : (m : Movement) → ProperMovement m → movement_tested m ≡ got m
unfolding movement_tested
movement-passed m p =
    account-passed 1 2 m.account _ p.account
    ∙ account-passed 3 4 m.other _ p.other
    ∙ test-passed 5 _ _ (le-leb m.amount most12 p.amount)
    ∙ test-passed 6 _ _ p.code
    ∙ test-passed 7 _ _ (lt-ltb m.variable 10000000000 p.variable)

pub proper-tested : (t : Thing) → Proper t → tested t ≡ said t
unfolding tested said
proper-tested (a_head h) p = ap head_is (head_passed h p)
proper-tested (a_movement m) p = ap movement_is (movement-passed m p)
proper-tested strange p = absurd p

-- ---- tests that were passed

module _ {A : Type 0} where
  test-got : (i : ℕ) (ok : Bool) (rest : Said A) (a : A) → test i ok rest ≡ got a → (ok ≡ true) × (rest ≡ got a)
  unfolding test pick
  test-got i true rest a e = (refl, e)
  test-got i false rest a e = no-got e

  account-got : (i j : ℕ) (a : Account) (rest : Said A) (b : A) → account_test i j a rest ≡ got b → ProperAccount a × (rest ≡ got b)
  unfolding account_test
  account-got i j a rest b e =
      let p = test-got i (ltb a.prefix 1000000) _ b e in
      let q = test-got j (ltb a.base 10000000000) rest b p.1 in
      (record { prefix = ltb-true a.prefix 1000000 p.0; base = ltb-true a.base 10000000000 q.0 }, q.1)

  signed-got : (i : ℕ) (x : Signed) (rest : Said A) (b : A) → signed_test i x rest ≡ got b → (x.size ≤ most14) × (rest ≡ got b)
  unfolding signed_test
  signed-got i x rest b e = let p = test-got i (leb x.size most14) rest b e in (leb-true x.size most14 p.0, p.1)

-- a head whose words pass
pub record HeadPasses (h : Head) : Type 0 where
  pub account : ProperAccount h.account
  pub old : h.old.size ≤ most14
  pub new : h.new.size ≤ most14
  pub debit : h.debit.size ≤ most14
  pub credit : h.credit.size ≤ most14

-- a movement
pub record MovementPasses (m : Movement) : Type 0 where
  pub account : ProperAccount m.account
  pub other : ProperAccount m.other
  pub amount : m.amount ≤ most12
  pub code : is_code m.code ≡ true
  pub variable : m.variable < 10000000000

abbrev pub Passes : Thing → Type 0
Passes (a_head h) = HeadPasses h
Passes (a_movement m) = MovementPasses m
Passes strange = ⊥

head-got : (g h : Head) → head_tested g ≡ got h → HeadPasses g × (g ≡ h)
unfolding head_tested
head-got g h e =
    let a = account-got 1 2 g.account _ h e in
    let o = signed-got 3 g.old _ h a.1 in
    let n = signed-got 4 g.new _ h o.1 in
    let d = signed-got 5 g.debit _ h n.1 in
    let c = signed-got 6 g.credit _ h d.1 in
    (record { account = a.0; old = o.0; new = n.0; debit = d.0; credit = c.0 }, got_same c.1)

movement-got : (g m : Movement) → movement_tested g ≡ got m → MovementPasses g × (g ≡ m)
unfolding movement_tested
movement-got g m e =
    let a = account-got 1 2 g.account _ m e in
    let o = account-got 3 4 g.other _ m a.1 in
    let n = test-got 5 (leb g.amount most12) _ m o.1 in
    let c = test-got 6 (is_code g.code) _ m n.1 in
    let v = test-got 7 (ltb g.variable 10000000000) _ m c.1 in (
      record {
        account = a.0;
        other = o.0;
        amount = leb-true g.amount most12 n.0;
        code = c.0;
        variable = ltb-true g.variable 10000000000 v.0;
      },
      got_same v.1,
    )

-- what is tested and said is what was tested
pub tested-same : (g t : Thing) → tested g ≡ said t → (t ≡ strange → ⊥) → Passes g × (g ≡ t)
unfolding tested said
tested-same (a_head g) (a_head h) e n =
    let p = head-got g h (let f : head_is (head_tested g) ≡ head_is (got h) = e in cc) in
    (p.0, ap a_head p.1)
tested-same (a_movement g) (a_movement m) e n =
    let p = movement-got g m (let f : movement_is (movement_tested g) ≡ movement_is (got m) = e in cc) in
    (p.0, ap a_movement p.1)
tested-same (a_head g) (a_movement m) e n = two-kinds (head_tested g) (got m) e
tested-same (a_movement g) (a_head h) e n = two-kinds (got h) (movement_tested g) (sym e)
tested-same (a_head g) strange e n = absurd (n refl)
tested-same (a_movement g) strange e n = absurd (n refl)
tested-same strange t e n = no_none t n e
