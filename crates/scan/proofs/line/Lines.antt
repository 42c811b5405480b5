-- The lines of a text: the first of them, that none holds a line end, and that there are none only of an empty text. Assumes nothing.
use mathlib.Core.Path.{◌≡◌, refl, sym}
use mathlib.Core.Bool.{true}
use mathlib.Core.List.{List, [], ◌∷◌, ◌++◌}
use Prim.Native.Nat.{ℕ, suc, ◌+◌, ◌≤◌}
use native.Mathlib.Nat.{add-zero}
use native.Mathlib.Omega.{arith}
use lib.ListN.{length, drop_of_length-le}
use Rattle.base.specs.Pick.{pick}
use Rattle.base.specs.Seek.{all}
use Rattle.base.proofs.Cases.{either}
use Rattle.base.proofs.Seek.{never, all_head, all_tail}
use Rattle.paper.specs.Lines.{Line, line, first, ended, behind, lines_of, lines_from}
use Rattle.scan.specs.line.Cutting.{is_plain}
use Rattle.scan.proofs.line.Plain.{plain-lf, plain-cr}

-- plain bytes, and a line end behind them
pub line-joined : (i : ℕ) (s rest : List ℕ) (ts : List Line) → all is_plain s ≡ true → lines_of (i + length s) rest ≡ ended (i + length s) ts → lines_of i (s ++ rest) ≡ line i s ∷ ts
unfolding lines_of pick
line-joined i [] rest ts p g = rw add-zero at g
line-joined i (b ∷ s) rest ts p g =
    let e : i + suc (length s) ≡ suc i + length s = omega arith in
    let plain = all_head is_plain b s p in
    simp (plain-lf b plain, plain-cr b plain, line-joined (suc i) s rest ts (all_tail is_plain b s p) (rw e at g))

-- a text with no line end, and CR LF behind it
pub line_first : (i : ℕ) (s rest : List ℕ) → all is_plain s ≡ true → lines_of i (s ++ (13 ∷ 10 ∷ rest)) ≡ line i s ∷ lines_of (i + length s + 2) rest
unfolding lines_of pick
line_first i s rest p =
    let e : i + length s + 2 ≡ suc (suc (i + length s)) = omega arith in
    rw e (line-joined i s (13 ∷ 10 ∷ rest) (lines_of (suc (suc (i + length s))) rest) p refl)

-- a text with no line end, that is not empty, is one line
pub line-last : (i b : ℕ) (s : List ℕ) → all is_plain (b ∷ s) ≡ true → lines_of i (b ∷ s) ≡ line i (b ∷ s) ∷ []
unfolding lines_of pick
line-last i b [] p = let plain = all_head is_plain b [] p in simp (plain-lf b plain, plain-cr b plain)
line-last i b (c ∷ s) p =
    let plain = all_head is_plain b (c ∷ s) p in
    simp (plain-lf b plain, plain-cr b plain, line-last (suc i) c s (all_tail is_plain b (c ∷ s) p))

-- there is a line, and it starts at i
abbrev pub Begins : ℕ → List Line → Type 0
Begins i [] = ⊥
Begins i (t ∷ ts) = t.start ≡ i

begins-first : (i b : ℕ) (ts : List Line) → Begins i (first i b ts)
begins-first i b [] = refl
begins-first i b (t ∷ ts) = refl

begins-behind : (i j : ℕ) (ts : List Line) → Begins j ts → Begins i (behind i ts)
begins-behind i j [] g = absurd g
begins-behind i j (t ∷ ts) g = refl

pub lines-begin : (i b : ℕ) (s : List ℕ) → Begins i (lines_of i (b ∷ s))
unfolding lines_of
lines-begin i b [] =
    either (Begins i) _ (λ _. refl)
    (λ _. either (Begins i) _ (λ _. either (Begins i) _ (λ e. never (sym e)) (λ _. refl)) (λ _. refl))
lines-begin i b (c ∷ s) =
    let rest = lines_of (suc i) (c ∷ s) in
    either (Begins i) _ (λ _. refl)
    (λ _. either (Begins i) _ (λ _. either (Begins i) _ (λ _. begins-behind i (suc i) rest (lines-begin (suc i) c s)) (λ _. refl)) (λ _. begins-first i b rest))

-- only an empty text has no line
pub lines_none : (i : ℕ) (s : List ℕ) → lines_of i s ≡ [] → s ≡ []
lines_none i [] e = refl
lines_none i (b ∷ s) e = absurd (rw e at (lines-begin i b s))

-- behind a file's end there is no line
pub at-end : (f : List ℕ) (at : ℕ) → length f ≤ at → lines_from f at ≡ []
unfolding lines_from lines_of
at-end f at h = rw (drop_of_length-le f h)
