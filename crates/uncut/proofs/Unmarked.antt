-- A message whose parts, uncut, hold no ` NP:` holds none itself. Assumes nothing.
use mathlib.Core.Path.{◌≡◌, refl, sym, ◌∙◌}
use mathlib.Core.Bool.{true, false, not}
use mathlib.Core.List.{List, [], ◌∷◌, map, append-eq-nil_iff, cons-ne-nil}
use Prim.Native.Nat.{ℕ, zero, suc, ◌+◌, ◌≤◌}
use native.Mathlib.Omega.{arith}
use lib.Dec.{eqb, ltb}
use lib.ListN.{length}
use lib.Seq.{take_all}
use borrow.Author.Tests.{eqb-true, eqb-false, ltb-false, ne_eqb, not-true}
use Rattle.base.specs.Pick.{pick}
use Rattle.base.specs.Seek.{all, starts, seek, before, Free}
use Rattle.base.proofs.Cases.{by-test, pick-false}
use Rattle.base.proofs.Seek.{all_head, all_tail, free-starts, free-tail, free-cons}
use Rattle.paper.specs.Warnings.{Warning, long_part, notice}
use Rattle.paper.specs.Bytes.{bar, mark, null}
use Rattle.paper.specs.Texts.{Piece, piece, others, divide, cut, over, overs, pad}
use Rattle.uncut.specs.Unmarked.{Unmarked}

-- the bytes of pieces
abbrev bytes_of : List Piece → List (List ℕ)
bytes_of ps = map (λ (p : Piece). p.bytes) ps

-- ---- parts that were not cut

whole-cut : (w : Warning) (at : ℕ) (s : List ℕ) → over w (piece at s) ≡ [] → (cut (piece at s)).bytes ≡ s
unfolding over cut null pick
whole-cut w at [] e = refl
whole-cut w at (x ∷ s) e =
    by-test (ltb 35 (length (x ∷ s)))
    (λ l. absurd (cons-ne-nil (notice w at) [] (rw l at e)))
    (λ l. take_all 35 (x ∷ s) (ltb-false 35 (length (x ∷ s)) l))

parts_back : (k : ℕ) (ps : List Piece) → length ps ≤ k → overs ps ≡ [] → Unmarked (bytes_of (pad k (map cut ps))) → Unmarked (bytes_of ps)
unfolding overs pad
parts_back k [] l z u = tt
parts_back zero (p ∷ ps) l z u = absurd (omega arith)
parts_back (suc k) (p ∷ ps) l z (first, rest) =
    let (here, others) = (append-eq-nil_iff {p = over long_part p} {q = overs ps}).0 z in
    (rw (whole-cut long_part p.place p.bytes here) at first, parts_back k ps (omega arith) others rest)

-- ---- parts between bars

first-part : (x : ℕ) (s : List ℕ) → eqb x 124 ≡ false → before bar (x ∷ s) ≡ x ∷ before bar s
unfolding seek starts pick
first-part x s e = rw e

-- a pattern without a bar that stands at the start stands in the first part
starts-before : (ps s : List ℕ) → all (λ p. not (eqb 124 p)) ps ≡ true → starts ps (before bar s) ≡ false → starts ps s ≡ false
unfolding starts pick
starts-before [] s n h = h
starts-before (p ∷ ps) [] n h = refl
starts-before (p ∷ ps) (x ∷ s) n h =
    by-test (eqb x p)
    (λ e.
    let same = eqb-true x p e in
    let other : eqb x 124 ≡ false = ne_eqb x 124 (λ q. eqb-false 124 p (not-true _ (all_head (λ r. not (eqb 124 r)) p ps n)) (sym q ∙ same)) in
    let g : starts (p ∷ ps) (x ∷ before bar s) ≡ false = rw (first-part x s other) at h in
    rw e (starts-before ps s (all_tail (λ q. not (eqb 124 q)) p ps n) (rw e at g)))
    (λ e. rw e)

mark-barless : all (λ p. not (eqb 124 p)) mark ≡ true
unfolding all pick
mark-barless = refl

divide-free : (at : ℕ) (s : List ℕ) → Unmarked (bytes_of (divide at s)) → Free mark s
unfolding others seek starts pick
divide-free at [] u = refl
divide-free at (x ∷ s) u =
    by-test (eqb x 124)
    (λ e.
    let same = eqb-true x 124 e in
    free-cons mark x s (pick-false _ _ (ne_eqb x 32 (λ q. omega arith))) (divide-free (at + 1) s (rw e at u.1)))
    (λ e.
    let first : Free mark (x ∷ before bar s) = rw (first-part x s e) at u.0 in
    free-cons mark x s
    (starts-before mark (x ∷ s) mark-barless (rw (first-part x s e) (free-starts mark x (before bar s) first)))
    (divide-free (at + 1) s (free-tail mark x (before bar s) first, rw e at u.1)))

-- ---- both

pub pieces-free : (at : ℕ) (s : List ℕ) (k : ℕ) → length (divide at s) ≤ k → overs (divide at s) ≡ []
    → Unmarked (bytes_of (pad k (map cut (divide at s)))) → Free mark s
pieces-free at s k l z u = divide-free at s (parts_back k (divide at s) l z u)
