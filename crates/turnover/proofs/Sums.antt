-- Laws that the functions' proofs search by: one movement more, the test of a turnover. Assumes nothing.
use Rattle.std.proofs.Common.{◌≡◌, ℕ, ◌+◌, ◌≤◌, Bool, true, false, eqb, ◌&&◌, List, [], ◌∷◌, sym, refl, ◌∙◌, arith, eq-eqb, ne_eqb}
use Rattle.base.specs.Pick.{pick}
use Rattle.base.proofs.Cases.{by-eq}
use Rattle.gpc.specs.Signed.{Signed, is_difference, above, below}
use Rattle.gpc.specs.Turnovers.{Moved, moved, most12, part, total, is_debit, is_credit}
use Rattle.turnover.specs.declared.Turn.{Turn}
use Rattle.turnover.specs.declared.Turns.{Turns}
use Rattle.turnover.specs.Counts.{Stands, Raised, Lowered, Moves, none, one, Counts}

pub stands-as : (t : Turn) (u d x y : ℕ) → u ≡ x → d ≡ y → Stands t u d → Stands t x y
stands-as t u d x y e f h = rw (← e, ← f) h

-- ---- `Turn::moved`: a movement goes to the sum of its code and to no other

part_same : (k c n : ℕ) → c ≡ k → part k (moved c n) ≡ n
unfolding part pick
part_same k c n e = rw (eq-eqb c k e)

part-other : (k c n : ℕ) → (c ≡ k → ⊥) → part k (moved c n) ≡ 0
unfolding part pick
part-other k c n e = rw (ne_eqb c k e)

module _ (plus less c n : ℕ) (t : Turn) where
  pub moved_up : (r : Turn) → (plus ≡ less → ⊥) → c ≡ plus → Raised t n r → Moves plus less (moved c n) t r
  unfolding total
  moved_up r apart e h =
      let p = part_same plus c n e in
      let q = part-other less c n (λ f. apart (sym e ∙ f)) in
      record { by = λ ms k. stands-as r (total plus ms + n) (total less ms) _ _ (omega (arith, p)) (omega (arith, q)) (h.by _ _ k) }

  pub moved_down : (r : Turn) → (plus ≡ less → ⊥) → c ≡ less → Lowered t n r → Moves plus less (moved c n) t r
  unfolding total
  moved_down r apart e h =
      let p = part-other plus c n (λ f. apart (sym f ∙ e)) in
      let q = part_same less c n e in
      record { by = λ ms k. stands-as r (total plus ms) (total less ms + n) _ _ (omega (arith, p)) (omega (arith, q)) (h.by _ _ k) }

  pub not-moved : (c ≡ plus → ⊥) → (c ≡ less → ⊥) → Moves plus less (moved c n) t t
  unfolding total
  not-moved e f =
      let p = part-other plus c n e in
      let q = part-other less c n f in
      record { by = λ ms k. stands-as t (total plus ms) (total less ms) _ _ (omega (arith, p)) (omega (arith, q)) k }

pub ruleset moving = (moved_up, moved_down, not-moved)

-- ---- `Turns`: both sums at once

pub counts-none : (d c : Turn) → Stands d 0 0 → Stands c 0 0 → Counts (record { debit = d; credit = c }) []
unfolding total
counts-none d c h k = record { debits = h; credits = k; amounts = none }

pub counts-more : (t : Turns) (d c : Turn) (k n : ℕ) → n ≤ most12 → Moves 1 4 (moved k n) t.debit d → Moves 2 5 (moved k n) t.credit c
    → (ms : List Moved) → Counts t ms → Counts (record { debit = d; credit = c }) (moved k n ∷ ms)
counts-more t d c k n small p q ms h = record { debits = p.by ms h.debits; credits = q.by ms h.credits; amounts = one small h.amounts }

module _ (t : Turns) (r : Bool) (x : Signed) where
  pub debit-tested : ((u d : ℕ) → Stands t.debit u d → r ≡ is_difference u d x) → (ms : List Moved) → Counts t ms → r ≡ is_debit ms x
  unfolding is_debit
  debit-tested f ms h = f _ _ h.debits

  pub credit-tested : ((u d : ℕ) → Stands t.credit u d → r ≡ is_difference u d x) → (ms : List Moved) → Counts t ms → r ≡ is_credit ms x
  unfolding is_credit
  credit-tested f ms h = f _ _ h.credits

pub ruleset counting = (counts-none, counts-more, debit-tested, credit-tested)

-- ---- `Turn::is`

-- two tests of which each follows from the other
pub same_test : (a b x y : ℕ) → (a ≡ b → x ≡ y) → (x ≡ y → a ≡ b) → eqb a b ≡ eqb x y
same_test a b x y f g =
    by-eq a b (λ e. eq-eqb a b e ∙ sym (eq-eqb x y (f e))) (λ n. ne_eqb a b n ∙ sym (ne_eqb x y (λ e. n (g e))))

carried : (minus : Bool) (n u d : ℕ) → pick minus (eqb (u + n) d) (eqb u (n + d)) ≡ eqb (pick minus 0 n + d) (u + pick minus n 0)
unfolding pick
carried true n u d = same_test (u + n) d (0 + d) (u + n) (λ e. omega arith) (λ e. omega arith)
carried false n u d = same_test u (n + d) (n + d) (u + 0) (λ e. omega arith) (λ e. omega arith)

-- a difference with its minus carried over
pub difference : (u d : ℕ) (x : Signed) → is_difference u d x ≡ eqb (above x + d) (u + below x)
unfolding is_difference above below
difference u d x = carried x.minus x.size u d

module _ (t y : Turn) (x : Signed) (s : Stands y (above x) (below x)) where
  same-high : t.high ≡ y.high → (u d : ℕ) → Stands t u d → eqb t.low y.low ≡ is_difference u d x
  same-high e u d h =
      same_test t.low y.low (above x + d) (u + below x) (λ q. omega (arith, h.same, s.same)) (λ q. omega (arith, h.same, s.same))
      ∙ sym (difference u d x)

  other-high : (t.high ≡ y.high → ⊥) → (u d : ℕ) → Stands t u d → false ≡ is_difference u d x
  other-high n u d h =
      sym (difference u d x ∙ ne_eqb (above x + d) (u + below x) (λ q. n (omega (arith, h.same, h.small, s.same, s.small))))

  -- both words are equal, or one is not
  pub both-tested : (u d : ℕ) → Stands t u d → eqb t.high y.high && eqb t.low y.low ≡ is_difference u d x
  both-tested u d h =
      by-eq t.high y.high
      (λ e. rw (eq-eqb t.high y.high e) (same-high e u d h))
      (λ n. rw (ne_eqb t.high y.high n) (other-high n u d h))

-- ---- `Turn::of`

module _ (z r : Turn) (x : Signed) (h : Stands z 0 0) where
  pub said-plus : x.minus ≡ false → Raised z x.size r → Stands r (above x) (below x)
  unfolding above below pick
  said-plus e k = rw e (stands-as r _ _ x.size 0 (omega arith) refl (k.by 0 0 h))

  pub said-minus : x.minus ≡ true → Lowered z x.size r → Stands r (above x) (below x)
  unfolding above below pick
  said-minus e k = rw e (stands-as r _ _ 0 x.size refl (omega arith) (k.by 0 0 h))

pub ruleset saying = (said-plus, said-minus)
