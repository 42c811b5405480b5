-- A line can be cut off a file in one way only, so `next_line`'s contract determines its answer. Assumes nothing.
use mathlib.Core.Path.{◌≡◌, sym, ap, ◌∙◌}
use mathlib.Core.List.{List, [], ◌∷◌}
use Prim.Native.Nat.{ℕ, suc, ◌-◌, ◌≤◌, ◌<◌}
use native.Mathlib.Omega.{arith}
use lib.ListN.{length, get_or, take, drop, length-drop}
use lib.Seq.{drop-cons, length-take-le}
use Rattle.base.proofs.Cases.{by-lt}
use Rattle.paper.specs.Lines.{Line, line, lines_from}
use Rattle.scan.specs.declared.line.Cut.{Cut}
use Rattle.scan.specs.line.Cutting.{Cuts}
use Rattle.scan.proofs.line.Lines.{Begins, lines-begin, at-end}

from-begins : (f : List ℕ) (i : ℕ) → i < length f → Begins i (lines_from f i)
unfolding lines_from
from-begins f i l = rw (drop-cons f i 0 l) (lines-begin i (get_or f i 0) (drop (suc i) f))

two-starts : (ts : List Line) (i j : ℕ) → Begins i ts → Begins j ts → i ≡ j
two-starts [] i j a b = absurd a
two-starts (t ∷ ts) i j a b = sym a ∙ b

-- the same lines from two places on: the places are the same, or both the file's end
same_place : (f : List ℕ) (i j : ℕ) → i ≤ length f → j ≤ length f → lines_from f i ≡ lines_from f j → i ≡ j
same_place f i j a b e =
    by-lt i (length f)
    (λ l. by-lt j (length f) (λ m. two-starts (lines_from f j) i j (rw e at (from-begins f i l)) (from-begins f j m)) (λ m. absurd (rw (e, at-end f j m) at (from-begins f i l))))
    (λ l. by-lt j (length f) (λ m. absurd (rw (← e, at-end f i l) at (from-begins f j m))) (λ m. omega arith))

cut-same : (r q : Cut) → r.stop ≡ q.stop → r.next ≡ q.next → r ≡ q
cut-same r q e f =
    let place : ℕ → ℕ → Cut = λ a b. record { stop = a; next = b } in
    ap (λ (a : ℕ). place a r.next) e ∙ ap (place q.stop) f

pub cuts-one : (f : List ℕ) (at : ℕ) (r q : Cut) → Cuts f at r → Cuts f at q → r ≡ q
cuts-one f at r q c d = cut-same r q stops (same_place f r.next q.next c.inside d.inside nexts)
  where
    both : line at (take (r.stop - at) (drop at f)) ∷ lines_from f r.next ≡ line at (take (q.stop - at) (drop at f)) ∷ lines_from f q.next
    both = sym c.lines ∙ d.lines

    nexts : lines_from f r.next ≡ lines_from f q.next
    nexts = cc

    heads : line at (take (r.stop - at) (drop at f)) ≡ line at (take (q.stop - at) (drop at f))
    heads = cc

    bytes : take (r.stop - at) (drop at f) ≡ take (q.stop - at) (drop at f)
    bytes = ap (λ (t : Line). t.bytes) heads

    long : (p : Cut) → Cuts f at p → length (take (p.stop - at) (drop at f)) ≡ p.stop - at
    long p g = let to = g.to in let inside = g.inside in length-take-le (p.stop - at) (drop at f) (omega (arith, length-drop at f))

    stops : r.stop ≡ q.stop
    stops =
        let n : r.stop - at ≡ q.stop - at = sym (long r c) ∙ (ap length bytes ∙ long q d) in
        let a = c.from in
        let b = d.from in
        omega arith
