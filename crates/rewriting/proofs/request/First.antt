-- The line that `next_line` cuts off the input is its first line, and what stands behind the cut is the file. Assumes nothing.
use mathlib.Core.Path.{◌≡◌, refl, sym, ap, ◌∙◌}
use mathlib.Core.Bool.{false}
use mathlib.Core.List.{List, [], ◌∷◌}
use Prim.Native.Nat.{ℕ, suc, ◌+◌, ◌-◌, ◌≤◌, ◌<◌}
use native.Mathlib.Numerals.{add-one}
use native.Mathlib.Omega.{arith}
use lib.Dec.{eqb}
use lib.ListN.{length, take, drop}
use Rattle.base.specs.Pick.{pick}
use borrow.Author.Tests.{ne_eqb}
use Rattle.base.proofs.Cases.{by-eq}
use Rattle.paper.specs.Lines.{Line, line, first, lines_of, lines_from}
use Rattle.paper.specs.Rewriting.{first_line, past_lf, behind_first}
use Rattle.scan.specs.declared.line.Cut.{Cut}
use Rattle.scan.specs.line.Cutting.{Cuts}
use Rattle.scan.proofs.line.Only.{cuts-one}

-- the bytes f, the first of which stands at i: their first line, and the lines from behind its end on, n bytes further
record Splits (i : ℕ) (f : List ℕ) (n : ℕ) : Type 0 where
  lines : lines_of i f ≡ line i (first_line f) ∷ lines_of (i + n) (behind_first f)
  some : 0 < n
  room : n ≤ length f
  rest : behind_first f ≡ drop n f
  front : take (length (first_line f)) f ≡ first_line f
  short : length (first_line f) ≤ n

-- an LF
at-lf : (i : ℕ) (s : List ℕ) → Splits i (10 ∷ s) 1
unfolding lines_of first_line behind_first pick
at-lf i s = record { lines = rw add-one; some = omega arith; room = omega arith; rest = refl; front = refl; short = omega arith }

-- a CR, with an LF behind it or not
at-cr-lf : (i : ℕ) (s : List ℕ) → Splits i (13 ∷ 10 ∷ s) 2
unfolding lines_of first_line behind_first past_lf pick
at-cr-lf i s =
    let e : i + 2 ≡ suc (suc i) = omega arith in
    record { lines = rw e; some = omega arith; room = omega arith; rest = refl; front = refl; short = omega arith }

at-cr-end : (i : ℕ) → Splits i (13 ∷ []) 1
unfolding lines_of first_line behind_first past_lf pick
at-cr-end i = record { lines = refl; some = omega arith; room = omega arith; rest = refl; front = refl; short = omega arith }

cr-lines : (i c : ℕ) (s : List ℕ) → eqb c 10 ≡ false → lines_of i (13 ∷ c ∷ s) ≡ line i [] ∷ lines_of (i + 1) (c ∷ s)
unfolding lines_of pick
cr-lines i c s e = rw (add-one, e)

cr-behind : (c : ℕ) (s : List ℕ) → eqb c 10 ≡ false → behind_first (13 ∷ c ∷ s) ≡ c ∷ s
unfolding behind_first past_lf pick
cr-behind c s e = rw e

at-cr : (i c : ℕ) (s : List ℕ) → eqb c 10 ≡ false → Splits i (13 ∷ c ∷ s) 1
unfolding first_line pick
at-cr i c s e =
    record {
      lines = rw (cr-behind c s e) (cr-lines i c s e);
      some = omega arith;
      room = omega arith;
      rest = cr-behind c s e;
      front = refl;
      short = omega arith;
    }

-- ---- a byte that ends no line

module _ (b : ℕ) (e : eqb b 10 ≡ false) (f : eqb b 13 ≡ false) (t : List ℕ) where
  pub plain-first : first_line (b ∷ t) ≡ b ∷ first_line t
  unfolding first_line pick
  plain-first = rw (e, f)

  plain-behind : behind_first (b ∷ t) ≡ behind_first t
  unfolding behind_first pick
  plain-behind = rw (e, f)

  plain_lines : (i : ℕ) → lines_of i (b ∷ t) ≡ first i b (lines_of (suc i) t)
  unfolding lines_of pick
  plain_lines i = rw (e, f)

none_first : first_line [] ≡ []
unfolding first_line
none_first = refl

none-behind : behind_first [] ≡ []
unfolding behind_first
none-behind = refl

none-lines : (i : ℕ) → lines_of i [] ≡ []
unfolding lines_of
none-lines i = refl

-- the last byte of all
at_last : (i b : ℕ) → eqb b 10 ≡ false → eqb b 13 ≡ false → Splits i (b ∷ []) 1
at_last i b e f =
    record {
      lines =
          rw (plain-first b e f [], plain-behind b e f [], none_first, none-behind, none-lines (i + 1))
          (plain_lines b e f [] i ∙ ap (λ (ls : List Line). first i b ls) (none-lines (suc i)));
      some = omega arith;
      room = omega arith;
      rest = rw (plain-behind b e f [], none-behind) refl;
      front = rw (plain-first b e f [], none_first) refl;
      short = rw (plain-first b e f [], none_first) (omega arith);
    }

-- or one of more
at_more : (i b : ℕ) → eqb b 10 ≡ false → eqb b 13 ≡ false → (t : List ℕ) (n : ℕ) → Splits (suc i) t n → Splits i (b ∷ t) (suc n)
at_more i b e f t n h =
    let k : suc i + n ≡ i + suc n = omega arith in
    record {
      lines =
          rw (plain-first b e f t, plain-behind b e f t)
          (plain_lines b e f t i
          ∙ ap (λ (ls : List Line). first i b ls) h.lines
          ∙ ap (λ (m : ℕ). line i (b ∷ first_line t) ∷ lines_of m (behind_first t)) k);
      some = omega arith;
      room = omega (arith, h.room);
      rest = plain-behind b e f t ∙ h.rest;
      front = rw (plain-first b e f t) (ap (λ (s : List ℕ). b ∷ s) h.front);
      short = rw (plain-first b e f t) (omega (arith, h.short));
    }

-- ---- any bytes

cr-splits : (i : ℕ) (s : List ℕ) → (n : ℕ) × Splits i (13 ∷ s) n
cr-splits i [] = (1, at-cr-end i)
cr-splits i (c ∷ s) = by-eq c 10 (λ e. (2, rw e (at-cr-lf i s))) (λ no-lf. (1, at-cr i c s (ne_eqb c 10 no-lf)))

splits : (i b : ℕ) (s : List ℕ) → (n : ℕ) × Splits i (b ∷ s) n
splits i b [] =
    by-eq b 10 (λ e. (1, rw e (at-lf i [])))
    (λ no-lf. by-eq b 13 (λ e. rw e (cr-splits i [])) (λ no-cr. (1, at_last i b (ne_eqb b 10 no-lf) (ne_eqb b 13 no-cr))))
splits i b (c ∷ s) =
    by-eq b 10 (λ e. (1, rw e (at-lf i (c ∷ s))))
    (λ no-lf. by-eq b 13 (λ e. rw e (cr-splits i (c ∷ s)))
    (λ no-cr. let (n, h) = splits (suc i) c s in (suc n, at_more i b (ne_eqb b 10 no-lf) (ne_eqb b 13 no-cr) (c ∷ s) n h)))

-- ---- the cut

cut_of : (f : List ℕ) (n : ℕ) → Splits 0 f n → Cuts f 0 (record { stop = length (first_line f); next = n })
unfolding lines_from
cut_of f n h =
    let zero-n : 0 + n ≡ n = omega arith in
    let whole : length (first_line f) - 0 ≡ length (first_line f) = omega arith in
    let front : take (length (first_line f) - 0) f ≡ first_line f = ap (λ (m : ℕ). take m f) whole ∙ h.front in
    record {
      lines =
          h.lines
          ∙ ap (λ (m : ℕ). line 0 (first_line f) ∷ lines_of m (behind_first f)) zero-n
          ∙ ap (λ (t : List ℕ). line 0 (first_line f) ∷ lines_of n t) h.rest
          ∙ ap (λ (t : List ℕ). line 0 t ∷ lines_of n (drop n f)) (sym front);
      ahead = h.some;
      from = omega arith;
      to = h.short;
      inside = h.room;
    }

pub first-cut : (f : List ℕ) (r : Cut) → 0 < length f → Cuts f 0 r → (take r.stop f ≡ first_line f) × (drop r.next f ≡ behind_first f)
first-cut [] r l c = absurd (omega arith)
first-cut (b ∷ s) r l c =
    let (n, h) = splits 0 b s in
    let e = cuts-one (b ∷ s) 0 r (record { stop = length (first_line (b ∷ s)); next = n }) c (cut_of (b ∷ s) n h) in
    let stop : r.stop ≡ length (first_line (b ∷ s)) = ap (λ (q : Cut). q.stop) e in
    let next : r.next ≡ n = ap (λ (q : Cut). q.next) e in
    (ap (λ (m : ℕ). take m (b ∷ s)) stop ∙ h.front, ap (λ (m : ℕ). drop m (b ∷ s)) next ∙ sym h.rest)
