-- Statements that are the same things, one after the other, are the same statements. Assumes nothing.
use mathlib.Core.Path.{◌≡◌, refl, sym}
use mathlib.Core.List.{List, [], ◌∷◌}
use Prim.Native.Nat.{ℕ}
use native.Mathlib.Omega.{arith}
use Rattle.gpc.specs.Records.{Head, Movement, Thing, a_movement}
use Rattle.gpc.specs.Statements.{Statement, statement, movement_things, things}

-- statements begin with a head
head_first : {P : Type 0} (ss : List Statement) (m : Movement) (ts : List Thing) → things ss ≡ a_movement m ∷ ts → P
unfolding things
head_first [] m ts e = absurd (let z : ◌≡◌ {A = ℕ} 0 1 = cc in omega arith)
head_first (s ∷ ss) m ts e = absurd (let z : ◌≡◌ {A = ℕ} 0 1 = cc in omega arith)

-- so movements end where the next head stands, or nothing
movements-same : (ms ms' : List Movement) (ss ss' : List Statement) → movement_things ms (things ss) ≡ movement_things ms' (things ss')
    → (ms ≡ ms') × (things ss ≡ things ss')
unfolding movement_things
movements-same [] [] ss ss' e = (refl, e)
movements-same [] (m ∷ ms') ss ss' e = head_first ss m _ e
movements-same (m ∷ ms) [] ss ss' e = head_first ss' m _ (sym e)
movements-same (m ∷ ms) (m' ∷ ms') ss ss' e =
    let q = movements-same ms ms' ss ss' (cc) in
    let first : m ≡ m' = cc in
    (rw (first, q.0) refl, q.1)

statement-same : (h h' : Head) (ms ms' : List Movement) → h ≡ h' → ms ≡ ms' → statement h ms ≡ statement h' ms'
statement-same h h' ms ms' e d = rw (e, d) refl

pub things-same : (ss ss' : List Statement) → things ss ≡ things ss' → ss ≡ ss'
unfolding things
things-same [] [] e = refl
things-same [] (s ∷ ss') e = absurd (let z : ◌≡◌ {A = ℕ} 0 1 = cc in omega arith)
things-same (s ∷ ss) [] e = absurd (let z : ◌≡◌ {A = ℕ} 0 1 = cc in omega arith)
things-same (s ∷ ss) (s' ∷ ss') e =
    let q = movements-same s.movements s'.movements ss ss' (cc) in
    let heads : s.head ≡ s'.head = cc in
    let first : s ≡ s' = statement-same s.head s'.head s.movements s'.movements heads q.0 in
    let rest = things-same ss ss' q.1 in
    cc
