-- A list of rules as a verdict: wrong at the first that is not met, fine if all are. Assumes nothing.
use mathlib.Core.Path.{◌≡◌, refl, sym, ap, ◌∙◌}
use mathlib.Core.Bool.{Bool, false}
use mathlib.Core.List.{List, [], ◌∷◌, ◌++◌}
use mathlib.Core.Logic.{◌↔◌}
use Prim.Native.Nat.{ℕ, suc, ◌+◌, ◌*◌}
use native.Mathlib.Omega.{arith}
use Rattle.base.specs.Pick.{pick}
use Rattle.base.proofs.Cases.{by-test}
use Rattle.paper.specs.Batch.{Thing}
use Rattle.paper.specs.Proper.{Verdict, fine, wrong, check}
use Rattle.paper.specs.FirstWrong.{Rule, rule, AllMet, FirstWrong, in_order, part_rules}

-- what cannot be
pub apart : {A : Type 0} → ◌≡◌ {A = ℕ} 0 1 → A
apart e = absurd (omega arith)

-- the verdict on rules in their order, and on what is tested behind them
unfoldable pub verdict_on : List Rule → Verdict → Verdict
verdict_on [] rest = rest
verdict_on (r ∷ rs) rest = check r.row r.field r.met (verdict_on rs rest)

-- rules behind rules
pub then : (p q : List Rule) (rest : Verdict) → verdict_on (p ++ q) rest ≡ verdict_on p (verdict_on q rest)
unfolding verdict_on
then [] q rest = refl
then (r ∷ p) q rest = ap (λ v. check r.row r.field r.met v) (then p q rest)

-- behind a rule that is not met nothing is tested
pub not-met : (k n : ℕ) (rs : List Rule) (rest : Verdict) → wrong k n ≡ verdict_on (rule k n false ∷ rs) rest
unfolding verdict_on check pick
not-met k n rs rest = refl

-- Rows whose tests are the rules of each row, and then those of the rest, are tested by all rules in order.
module _ (of_row : ℕ → List Thing → Thing → List Rule) (of_end : ℕ → List Thing → List Rule) (tests : ℕ → List Thing → List Thing → Verdict)
    (at-end : (k : ℕ) (before : List Thing) → tests k before [] ≡ verdict_on (of_end k before) fine)
    (at_row : (k : ℕ) (before : List Thing) (t : Thing) (ts : List Thing)
    → tests k before (t ∷ ts) ≡ verdict_on (of_row k before t) (tests (suc k) (t ∷ before) ts)) where
  pub tested-in-order : (k : ℕ) (before ts : List Thing) → tests k before ts ≡ verdict_on (in_order of_row of_end k before ts) fine
  unfolding in_order
  tested-in-order k before [] = at-end k before
  tested-in-order k before (t ∷ ts) =
      at_row k before t ts
      ∙ ap (λ v. verdict_on (of_row k before t) v) (tested-in-order (suc k) (t ∷ before) ts)
      ∙ sym (then (of_row k before t) _ fine)

-- message parts whose tests are each part's, and then those of the rest, the same
module _ (k : ℕ) (ok : ℕ → List ℕ → Bool) (rest : Verdict) (tests : ℕ → ℕ → List (List ℕ) → Verdict)
    (at-end : (n i : ℕ) → tests n i [] ≡ rest)
    (at_part : (n i : ℕ) (p : List ℕ) (ps : List (List ℕ)) → tests n i (p ∷ ps) ≡ check k n (ok i p) (tests (n + 2) (suc i) ps)) where
  pub parts-in-order : (n i : ℕ) (ps : List (List ℕ)) → n ≡ 11 + 2 * i → tests n i ps ≡ verdict_on (part_rules k ok i ps) rest
  unfolding part_rules verdict_on
  parts-in-order n i [] e = at-end n i
  parts-in-order n i (p ∷ ps) e =
      at_part n i p ps
      ∙ ap (λ m. check k m (ok i p) (tests (n + 2) (suc i) ps)) e
      ∙ ap (λ v. check k (11 + 2 * i) (ok i p) v) (parts-in-order (n + 2) (suc i) ps (omega arith))

-- ---- wrong exactly at the first rule that is not met

met-on : (rs : List Rule) (rest : Verdict) → AllMet rs → verdict_on rs rest ≡ rest
unfolding verdict_on check pick
met-on [] rest m = refl
met-on (r ∷ rs) rest (e, m) = rw e (met-on rs rest m)

fine-only : (rs : List Rule) → verdict_on rs fine ≡ fine → AllMet rs
unfolding verdict_on check pick
fine-only [] e = tt
fine-only (r ∷ rs) e =
    by-test r.met (λ t. (t, fine-only rs (rw t at e)))
    (λ t. let y : wrong r.row r.field ≡ fine = rw t at e in apart (cc))

wrong-only : (rs : List Rule) (k n : ℕ) → verdict_on rs fine ≡ wrong k n → FirstWrong rs k n
unfolding verdict_on check pick
wrong-only [] k n e = apart (cc)
wrong-only (r ∷ rs) k n e =
    by-test r.met
    (λ t.
    let w = wrong-only rs k n (rw t at e) in
    record { before = r ∷ w.before; after = w.after; split = ap (λ (l : List Rule). r ∷ l) w.split; lawful = (t, w.lawful) })
    (λ t.
    let y : wrong r.row r.field ≡ wrong k n = rw t at e in
    let i : r.row ≡ k = cc in
    let j : r.field ≡ n = cc in
    let same : r ≡ rule k n false = λ i₀. record { row = i i₀; field = j i₀; met = t i₀ } in
    record { before = []; after = rs; split = ap (λ (x : Rule). x ∷ rs) same; lawful = tt })

wrong-also : (rs : List Rule) (k n : ℕ) → FirstWrong rs k n → verdict_on rs fine ≡ wrong k n
unfolding verdict_on check pick
wrong-also rs k n w =
    ap (λ (l : List Rule). verdict_on l fine) w.split
    ∙ then w.before (rule k n false ∷ w.after) fine
    ∙ met-on w.before (verdict_on (rule k n false ∷ w.after) fine) w.lawful

pub first : (rs : List Rule) (k n : ℕ) → verdict_on rs fine ≡ wrong k n ↔ FirstWrong rs k n
first rs k n = (wrong-only rs k n, wrong-also rs k n)

pub none : (rs : List Rule) → verdict_on rs fine ≡ fine ↔ AllMet rs
none rs = (fine-only rs, met-on rs fine)

-- one of the two: a rule is the first that is not met, or all are met
decided : {P : Type 0} (rs : List Rule) (v : Verdict) → verdict_on rs fine ≡ v → ((k n : ℕ) → FirstWrong rs k n → P) → (AllMet rs → P) → P
decided rs fine e f g = g (fine-only rs e)
decided rs (wrong k n) e f g = f k n (wrong-only rs k n e)

pub by-rules : {P : Type 0} (rs : List Rule) → ((k n : ℕ) → FirstWrong rs k n → P) → (AllMet rs → P) → P
by-rules rs f g = decided rs (verdict_on rs fine) refl f g
