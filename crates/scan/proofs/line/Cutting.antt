-- One line cut off a file: what `next_line` knows while it reads, and where it stops. Assumes nothing.
use mathlib.Core.Path.{◌≡◌, refl, sym, ap, subst, ◌∙◌}
use mathlib.Core.Bool.{true, false}
use mathlib.Core.List.{List, [], ◌∷◌, ◌++◌}
use Prim.Native.Nat.{ℕ, suc, ◌+◌, ◌-◌, ◌≤◌, ◌<◌}
use native.Mathlib.Numerals.{add-one}
use native.Mathlib.Omega.{arith}
use lib.ListN.{length, get_or, take, drop, drop_of_length-le, take-append-drop, length-drop}
use lib.Seq.{drop-cons, drop-drop, get_or-drop, take-suc, take_all, length-take-le}
use borrow.Author.Tests.{eqb-true, leb-true, ne_eqb}
use Rattle.base.specs.Pick.{pick}
use Rattle.base.specs.Seek.{all}
use Rattle.base.proofs.Cases.{by-test, by-lt}
use Rattle.base.proofs.Seek.{never, all_cons, all_append, all_weaker}
use Rattle.paper.specs.Lines.{starts_lf, ended, behind, lines_of, lines_from}
use Rattle.scan.specs.block.Blocks.{is_high, Skips}
use Rattle.scan.specs.declared.line.Cut.{Cut}
use Rattle.scan.specs.line.Cutting.{is_plain, Cuts}
use Rattle.scan.proofs.line.Plain.{high-plain}
use Rattle.scan.proofs.line.Lines.{line-joined, line-last, at-end}

abbrev cut_at : ℕ → ℕ → Cut
cut_at e n = record { stop = e; next = n }

-- ---- what one byte of the file does

begins-lf : (f : List ℕ) (i : ℕ) → starts_lf (drop i f) ≡ true → (i < length f) × (get_or f i 0 ≡ 10)
begins-lf f i e =
    by-lt i (length f)
    (λ l. (l, eqb-true (get_or f i 0) 10 (rw (drop-cons f i 0 l) at e)))
    (λ h. never (sym (rw (drop_of_length-le f h) at e)))

from-lf : (f : List ℕ) (i : ℕ) → i < length f → get_or f i 0 ≡ 10 → lines_from f i ≡ ended i (lines_from f (i + 1))
unfolding lines_from lines_of pick
from-lf f i l e = rw (add-one, drop-cons f i 0 l, e)

-- where the next line starts behind a CR at i
abbrev pub past_cr : List ℕ → ℕ → ℕ
past_cr f i = pick (starts_lf (drop (i + 1) f)) (i + 2) (i + 1)

module _ (f : List ℕ) (i : ℕ) where
  pub behind-lf : i + 1 < length f → get_or f (i + 1) 0 ≡ 10 → i + 1 + 1 ≡ past_cr f i
  unfolding pick
  behind-lf l e = rw (drop-cons f (i + 1) 0 l, e) (omega arith)

  pub behind-other : i + 1 < length f → (get_or f (i + 1) 0 ≡ 10 → ⊥) → i + 1 ≡ past_cr f i
  unfolding pick
  behind-other l n = rw (drop-cons f (i + 1) 0 l, ne_eqb _ _ n)

  pub behind-none : length f ≤ i + 1 → i + 1 ≡ past_cr f i
  unfolding pick
  behind-none h = rw (drop_of_length-le f h)

pub ruleset behinds = (behind-lf, behind-other, behind-none)

-- an end of a line stands from i up to n
record Ends (f : List ℕ) (i n : ℕ) : Type 0 where
  here : lines_from f i ≡ ended i (lines_from f n)
  more : i < n
  room : n ≤ length f

from-cr : (f : List ℕ) (i : ℕ) → i < length f → get_or f i 0 ≡ 13 → lines_from f i ≡ pick (starts_lf (drop (i + 1) f)) (behind i (lines_from f (i + 1))) (ended i (lines_from f (i + 1)))
unfolding lines_from lines_of pick
from-cr f i l e = rw (add-one, drop-cons f i 0 l, e)

ends-cr : (f : List ℕ) (i : ℕ) → i < length f → get_or f i 0 ≡ 13 → Ends f i (past_cr f i)
unfolding pick
ends-cr f i l e = by-test (starts_lf (drop (i + 1) f)) (λ t. simp t (two t)) (λ t. simp t (one t))
  where
    two : starts_lf (drop (i + 1) f) ≡ true → Ends f i (i + 2)
    two t =
        let (m, d) = begins-lf f (i + 1) t in
        let far : i + 1 + 1 ≡ i + 2 = omega arith in
        record { here = from-cr f i l e ∙ rw (t, from-lf f (i + 1) m d, far); more = omega arith; room = omega arith }

    one : starts_lf (drop (i + 1) f) ≡ false → Ends f i (i + 1)
    one t = record { here = from-cr f i l e ∙ rw t; more = omega arith; room = omega arith }

-- ---- what has been read

-- every byte from `at` up to i is plain
abbrev pub Passed : List ℕ → ℕ → ℕ → Type 0
Passed f at i = (at ≤ i) × (i ≤ length f) × (all is_plain (take (i - at) (drop at f)) ≡ true)

-- bytes above 13 are
pub passed-high : (f : List ℕ) (at i : ℕ) → Skips is_high f at i → Passed f at i
passed-high f at i k = (
  k.from,
  k.inside,
  all_weaker is_high is_plain (λ b h. high-plain b (omega (arith, leb-true 14 b h))) (take (i - at) (drop at f)) k.between,
)

pub passed-more : (f : List ℕ) (at i : ℕ) → Passed f at i → i < length f → is_plain (get_or f i 0) ≡ true → Passed f at (i + 1)
unfolding all
passed-more f at i (a, b, p) l q =
    let k : i + 1 - at ≡ suc (i - at) = omega arith in
    let j : at + (i - at) ≡ i = omega arith in
    let g : get_or (drop at f) (i - at) 0 ≡ get_or f i 0 = get_or-drop at f (i - at) 0 ∙ rw j in
    (omega arith, omega arith, rw (k, take-suc (drop at f) (i - at) 0 (omega (arith, length-drop at f)), g) (all_append is_plain (take (i - at) (drop at f)) (get_or f i 0 ∷ []) p (all_cons is_plain (get_or f i 0) [] q refl)))

module _ (f : List ℕ) (at i : ℕ) (inv : Passed f at i) where
  -- the line up to i, whose end stands from i up to n
  ended_at : (n : ℕ) → Ends f i n → Cuts f at (cut_at i n)
  unfolding lines_from
  ended_at n e =
      let a = inv.0 in
      let b = inv.1 in
      let s : List ℕ = take (i - at) (drop at f) in
      let k : at + length s ≡ i = let m = length-take-le (i - at) (drop at f) (omega (arith, length-drop at f)) in omega arith in
      let j : at + (i - at) ≡ i = omega arith in
      let parts : s ++ drop i f ≡ drop at f = let h = take-append-drop (i - at) (drop at f) in rw (drop-drop (i - at) at f, j) at h in
      record {
        lines = ap (lines_of at) (sym parts) ∙ line-joined at s (drop i f) (lines_from f n) inv.2 (rw k e.here);
        ahead = omega arith;
        from = a;
        to = omega arith;
        inside = e.room;
      }

  pub cut-lf : i < length f → get_or f i 0 ≡ 10 → Cuts f at (cut_at i (i + 1))
  cut-lf l e = ended_at (i + 1) (record { here = from-lf f i l e; more = omega arith; room = omega arith })

  pub cut-cr : (n : ℕ) → i < length f → get_or f i 0 ≡ 13 → n ≡ past_cr f i → Cuts f at (cut_at i n)
  cut-cr n l e q = ended_at n (rw q (ends-cr f i l e))

  -- the last line, which lacks its end
  last_at : at < length f → length f ≤ i → Cuts f at (cut_at i i)
  unfolding lines_from
  last_at l h =
      let e : take (i - at) (drop at f) ≡ drop at f = take_all (i - at) (drop at f) (omega (arith, length-drop at f)) in
      let c = drop-cons f at 0 l in
      record {
        lines = rw (e, at-end f i h, c) (line-last at (get_or f at 0) (drop (suc at) f) (rw (e, c) at inv.2));
        ahead = omega arith;
        from = inv.0;
        to = omega arith;
        inside = inv.1;
      }

  pub cut-last : at < length f → length f ≤ i → Cuts f at (cut_at (length f) (length f))
  cut-last l h =
      let b = inv.1 in
      let n : length f ≡ i = omega arith in
      let P : ℕ → Type 0 = λ k. Cuts f at (cut_at k k) in
      subst P (sym n) (last_at l h)

pub ruleset cuts = (cut-lf, cut-cr, cut-last)
