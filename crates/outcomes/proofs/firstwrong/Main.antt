-- Refusals 20 and 21 name the first row and field that break a rule, for any sheet and any day. Assumes nothing.
use mathlib.Core.Path.{◌≡◌, refl}
use mathlib.Core.Bool.{Bool, true, false}
use mathlib.Core.List.{List, [], ◌∷◌, ◌++◌}
use mathlib.Core.Logic.Iff
use mathlib.Core.Logic.{◌↔◌}
use Prim.Native.Nat.{ℕ}
use Rattle.base.specs.Pick.{pick}
use Rattle.base.proofs.Cases.{by-test}
use Rattle.sheet.specs.declared.Sheet.{Sheet}
use Rattle.paper.specs.Batch.{Header, Thing, batch_of}
use Rattle.paper.specs.Proper.{Verdict, fine, wrong, check, header_proper, batch_proper}
use Rattle.paper.specs.Carried.{header_carried, batch_carried}
use Rattle.paper.specs.FirstWrong.{Rule, AllMet, FirstWrong, in_order, proper_header, proper_row, proper_end, proper_rules, carried_header, carried_row, carried_rules}
use Rattle.paper.specs.Canonical.{canon}
use Rattle.paper.specs.Writing.{Draft, drafted, refusal, on_verdict, draft_of}
use Rattle.outcomes.proofs.firstwrong.Verdicts.{apart, verdict_on, first, none}
use Rattle.outcomes.proofs.firstwrong.Proper as proper
use Rattle.outcomes.proofs.firstwrong.Carried as carried

-- ---- each verdict by itself

-- the verdict names the first rule that is broken, and is fine if none is
abbrev pub Names : Verdict → List Rule → Type 0
Names v rs = ((k n : ℕ) → v ≡ wrong k n ↔ FirstWrong rs k n) × (v ≡ fine ↔ AllMet rs)

names : (v : Verdict) (rs : List Rule) → v ≡ verdict_on rs fine → Names v rs
names v rs e = rw e (first rs, none rs)

pub header-proper : (h : Header) → Names (header_proper h) (proper_header h)
header-proper h = names _ _ (proper.header-verdict h)

pub rows-proper : (ts : List Thing) → Names (batch_proper ts) (in_order proper_row proper_end 1 [] ts)
rows-proper ts = names _ _ (proper.batch-verdict ts)

module _ (sh : Sheet) (today : ℕ) (h : Header) where
  pub header-carried : Names (header_carried sh.interval h) (carried_header sh today h)
  header-carried = names _ _ (carried.header-verdict sh today h)

  pub rows-carried : (ts : List Thing) → Names (batch_carried sh today h ts) (in_order (carried_row sh today h) (λ k before. []) 1 [] ts)
  rows-carried ts = names _ _ (carried.batch-verdict sh today h ts)

-- ---- the answer of writing: one verdict behind another

-- where a sheet has no header, none is looked at
if-headed : (t : Bool) (v : Verdict) (rs : List Rule) → v ≡ verdict_on rs fine → pick t v fine ≡ verdict_on (pick t rs []) fine
unfolding pick verdict_on
if-headed true v rs e = e
if-headed false v rs e = refl

-- rules, and then rules, refused with one number
on_both : (n : ℕ) (p q : List Rule) (rest : Draft)
    → on_verdict n (verdict_on p fine) (on_verdict n (verdict_on q fine) rest) ≡ on_verdict n (verdict_on (p ++ q) fine) rest
unfolding verdict_on check pick on_verdict
on_both n [] q rest = refl
on_both n (r ∷ p) q rest = by-test r.met (λ e. rw e (on_both n p q rest)) (λ e. rw e)

-- 20, then 21, then a file
abbrev draft_by : Verdict → Verdict → List ℕ → Draft
draft_by v w s = on_verdict 20 v (on_verdict 21 w (drafted s))

by-20 : (v w : Verdict) (s : List ℕ) (row field : ℕ) → draft_by v w s ≡ refusal 20 row field ↔ (v ≡ wrong row field)
unfolding on_verdict
by-20 (wrong k n) w s row field = (λ e. (cc), λ e. (cc))
by-20 fine (wrong k n) s row field = (λ e. apart (cc), λ e. apart (cc))
by-20 fine fine s row field = (λ e. apart (cc), λ e. apart (cc))

by-21 : (v w : Verdict) (s : List ℕ) (row field : ℕ) → draft_by v w s ≡ refusal 21 row field ↔ (v ≡ fine) × (w ≡ wrong row field)
unfolding on_verdict
by-21 (wrong k n) w s row field =
    (λ e. apart (cc), λ (e, _). apart (cc))
by-21 fine (wrong k n) s row field = (λ e. (refl, (cc)), λ (_, e). (cc))
by-21 fine fine s row field = (λ e. apart (cc), λ (_, e). apart (cc))

by-none : (v w : Verdict) (s t : List ℕ) → draft_by v w s ≡ drafted t ↔ (v ≡ fine) × (w ≡ fine) × (s ≡ t)
unfolding on_verdict
by-none (wrong k n) w s t =
    (λ e. apart (cc), λ (e, _, _). apart (cc))
by-none fine (wrong k n) s t =
    (λ e. apart (cc), λ (_, e, _). apart (cc))
by-none fine fine s t = (λ e. (refl, refl, (cc)), λ (_, _, e). (cc))

module _ (sh : Sheet) (today : ℕ) (h : Header) (ts : List Thing) where
  answered : draft_of sh today h ts
      ≡ on_verdict 20 (verdict_on (proper_rules sh h ts) fine) (on_verdict 21 (verdict_on (carried_rules sh today h ts) fine) (drafted (canon sh h (batch_of ts))))
  unfolding draft_of proper_rules carried_rules
  answered =
      rw (
        if-headed sh.header _ _ (proper.header-verdict h),
        proper.batch-verdict ts,
        if-headed sh.header _ _ (carried.header-verdict sh today h),
        carried.batch-verdict sh today h ts,
        on_both 21 (pick sh.header (carried_header sh today h) []) (in_order (carried_row sh today h) (λ k before. []) 1 [] ts) (drafted (canon sh h (batch_of ts))),
        on_both 20 (pick sh.header (proper_header h) []) (in_order proper_row proper_end 1 [] ts) _,
      )

  -- Writing refuses with 20 exactly if row and field are the first, in the testing order, that break a rule of "The batch";
  pub improper : (row field : ℕ) → draft_of sh today h ts ≡ refusal 20 row field ↔ FirstWrong (proper_rules sh h ts) row field
  improper row field = rw answered (simp (by-20, first) Iff.rfl)

  -- with 21 exactly if none of these is broken, and row and field are the first that the sheet does not carry on that day;
  pub uncarried : (row field : ℕ)
      → draft_of sh today h ts ≡ refusal 21 row field ↔ AllMet (proper_rules sh h ts) × FirstWrong (carried_rules sh today h ts) row field
  uncarried row field = rw answered (simp (by-21, first, none) Iff.rfl)

  -- and drafts a file, the canonical one, exactly if no rule is broken.
  pub drafts : (s : List ℕ)
      → draft_of sh today h ts ≡ drafted s ↔ AllMet (proper_rules sh h ts) × AllMet (carried_rules sh today h ts) × (canon sh h (batch_of ts) ≡ s)
  drafts s = rw answered (simp (by-none, none) Iff.rfl)
