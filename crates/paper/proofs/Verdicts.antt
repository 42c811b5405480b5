-- What has passed refusal 20: a field and what comes behind it, a header, a name. Assumes nothing.
use mathlib.Core.Path.{◌≡◌, refl}
use mathlib.Core.Bool.{Bool, true, false}
use mathlib.Core.List.{List}
use Prim.Native.Nat.{ℕ, ◌^◌, ◌≤◌, ◌<◌}
use native.Mathlib.Omega.{arith}
use lib.Dec.{eqb, ltb}
use lib.ListN.{length}
use borrow.Author.Tests.{ltb-true, ltb-false, eqb-true}
use Rattle.base.specs.Pick.{pick}
use Rattle.base.specs.Seek.{all}
use Rattle.base.proofs.Cases.{pick_true, pick-not, pick-both}
use Rattle.paper.specs.Bytes.{is_text}
use Rattle.paper.specs.Days.{real_day}
use Rattle.paper.specs.Texts.{name_proper}
use Rattle.paper.specs.Batch.{Header}
use Rattle.paper.specs.Proper.{Verdict, fine, check, header_proper}

-- what passes is judged on, and what is fine has passed
pub check-on : (k n : ℕ) (ok : Bool) (rest : Verdict) → ok ≡ true → check k n ok rest ≡ rest
unfolding check
check-on k n ok rest e = pick_true _ _ e

pub check-only : (k n : ℕ) (ok : Bool) (rest : Verdict) → check k n ok rest ≡ fine → (ok ≡ true) × (rest ≡ fine)
unfolding check pick
check-only k n true rest e = (refl, e)
check-only k n false rest e = absurd (let z : ◌≡◌ {A = ℕ} 0 1 = cc in omega arith)

-- what a proper header has
pub record Headed (h : Header) : Type 0 where
  pub date : real_day h.date ≡ true
  pub long : length h.name ≡ 20
  pub name : all is_text h.name ≡ true
  pub client : h.client < 10 ^ 10
  pub from : h.from < 10 ^ 3
  pub to : h.to < 10 ^ 3

pub headed : (h : Header) → header_proper h ≡ fine → Headed h
unfolding header_proper
headed h e =
    let t1 = check-only 0 1 (real_day h.date) _ e in
    let t2 = check-only 0 2 (pick (eqb (length h.name) 20) (all is_text h.name) false) _ t1.1 in
    let t3 = check-only 0 3 (ltb h.client 10000000000) _ t2.1 in
    let t4 = check-only 0 4 (ltb h.from 1000) _ t3.1 in
    let t5 = check-only 0 5 (ltb h.to 1000) _ t4.1 in
    let n = pick-both (eqb (length h.name) 20) (all is_text h.name) t2.0 in
    record {
      date = t1.0;
      long = eqb-true (length h.name) 20 n.0;
      name = n.1;
      client = ltb-true h.client 10000000000 t3.0;
      from = ltb-true h.from 1000 t4.0;
      to = ltb-true h.to 1000 t5.0;
    }

-- a text that may stand in a batch has at most 35 bytes
pub name-short : (n : List ℕ) → name_proper n ≡ true → length n ≤ 35
unfolding name_proper
name-short n e = ltb-false 35 (length n) (pick-not _ _ e).0
