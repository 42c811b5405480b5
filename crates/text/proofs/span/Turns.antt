-- The turns and the ways out of the functions that find parts by their places. Assumes nothing.
use mathlib.Core.Path.{◌≡◌, refl, sym, ap, ◌∙◌}
use mathlib.Core.List.{List, [], ◌∷◌}
use Prim.Native.Nat.{ℕ, suc, ◌+◌, ◌-◌, ◌≤◌, ◌<◌}
use native.Mathlib.Omega.{arith}
use lib.Dec.{ltb, eqb}
use lib.ListN.{length, drop, length-drop}
use lib.Seq.{drop-drop}
use borrow.Author.Tests.{ltb-true, lt-ltb, le-ltb}
use Rattle.base.specs.Pick.{pick}
use Rattle.base.specs.Seek.{starts, seek}
use Rattle.base.proofs.Cases.{by-test, either}
use Rattle.base.proofs.Seek.{seek-end, seek-within}
use Rattle.paper.specs.Bytes.{bar}
use Rattle.paper.specs.Texts.{others}
use Rattle.text.specs.span.Places.{span, part_to, part_at, placed, longer, cuts_of, found_at, one_at, four_from}
use Rattle.text.specs.declared.span.Span.{Span}
use Rattle.text.specs.declared.span.Part.{Part}
use Rattle.text.specs.declared.span.Spans.{Spans}

-- how many `|` stand from `from` on, when n stand before i
abbrev pub Counted : List ℕ → ℕ → ℕ → ℕ → Type 0
Counted s from n i = length (others from (drop from s)) ≡ n + length (others i (drop i s))

-- none stands before the first; where that is behind the text's end, none stands in it
others-none : (at : ℕ) (s : List ℕ) → length s ≤ seek bar s → length (others at s) ≡ 0
unfolding others seek starts pick
others-none at [] h = refl
others-none at (x ∷ s) h =
    by-test (eqb x 124) (λ e. absurd (omega (arith, simp e at h))) (λ e. simp e (others-none (at + 1) s (omega (arith, simp e at h))))

pub others-some : (at : ℕ) (s : List ℕ) → seek bar s < length s → length (others at s) ≡ 1 + length (others (at + seek bar s + 1) (drop (seek bar s + 1) s))
unfolding others seek starts pick
others-some at [] h = absurd (omega arith)
others-some at (x ∷ s) h =
    by-test (eqb x 124) (λ e. let z : at + 0 + 1 ≡ at + 1 = omega arith in simp e (rw z (omega arith)))
    (λ e.
    let l : seek bar s < length s = omega (arith, simp e at h) in
    let z : at + suc (seek bar s) + 1 ≡ at + 1 + seek bar s + 1 = omega arith in
    let w : suc (seek bar s) + 1 ≡ suc (seek bar s + 1) = omega arith in
    simp e (rw (z, w) (others-some (at + 1) s l)))

module _ (s : List ℕ) (from n k r : ℕ) (c : Counted s from n k) (g : r ≡ k + seek bar (drop k s)) where
  -- r is the place of the next one
  pub bars-some : k ≤ length s → r < length s → Counted s from (n + 1) (r + 1)
  bars-some h l =
      let e = others-some k (drop k s) (omega (arith, length-drop k s)) in
      let d : drop (seek bar (drop k s) + 1) (drop k s) ≡ drop (r + 1) s = let j : k + (seek bar (drop k s) + 1) ≡ r + 1 = omega arith in drop-drop (seek bar (drop k s) + 1) k s ∙ ap (λ (i : ℕ). drop i s) j in
      let f : length (others (k + seek bar (drop k s) + 1) (drop (seek bar (drop k s) + 1) (drop k s))) ≡ length (others (r + 1) (drop (r + 1) s)) = rw (d, ← g) in
      omega arith

  pub bars-none : k ≤ length s → length s ≤ r → n ≡ length (others from (drop from s))
  bars-none h l = omega (arith, others-none k (drop k s) (omega (arith, length-drop k s)))

-- part_at
module _ (m : List ℕ) (a e : ℕ) (g : e ≡ a + seek bar (drop a m)) where
  pub part-bar : e < length m → record { at = a; len = e - a; next = e + 1 } ≡ part_at m a
  unfolding part_to pick
  part-bar h = rw (← g, lt-ltb e (length m) h)

  pub part-last : length m ≤ e → record { at = a; len = e - a; next = e } ≡ part_at m a
  unfolding part_to pick
  part-last h = rw (← g, le-ltb e (length m) h)

pub part_none : (m : List ℕ) (a : ℕ) → a ≡ length m → record { at = a; len = 0; next = a } ≡ part_at m a
part_none m a h =
    let z : a - a ≡ 0 = omega arith in
    rw z at (part-last m a a (sym (seek-end bar m a (omega arith))) (omega arith))

pub ruleset pieces = (part-bar, part-last, part_none)

-- the next part begins within the text
pub part-next : (m : List ℕ) (from : ℕ) (p : Part) → p ≡ part_at m from → from ≤ length m → p.next ≤ length m
unfolding part_to
part-next m from p g h =
    rw g
    (either (λ (n : ℕ). n ≤ length m) (ltb (from + seek bar (drop from m)) (length m))
    (λ e. omega (arith, ltb-true (from + seek bar (drop from m)) (length m) e)) (λ e. seek-within bar m from h))

-- .. right behind the part, or behind its `|`
pub part-upto : (m : List ℕ) (from : ℕ) (p : Part) → p ≡ part_at m from → p.at + p.len ≤ p.next
unfolding part_to
part-upto m from p g =
    rw g (either (λ (n : ℕ). from + (from + seek bar (drop from m) - from) ≤ n) (ltb (from + seek bar (drop from m)) (length m)) (λ e. omega arith) (λ e. omega arith))

pub part-near : (m : List ℕ) (from : ℕ) (p : Part) → p ≡ part_at m from → p.next ≤ p.at + p.len + 1
unfolding part_to
part-near m from p g =
    rw g (either (λ (n : ℕ). n ≤ from + (from + seek bar (drop from m) - from) + 1) (ltb (from + seek bar (drop from m)) (length m)) (λ e. omega arith) (λ e. omega arith))

-- gather
pub gathered : (a b c d : Part) (at len : ℕ) (p q r s n : Span) (w : ℕ)
    → p ≡ placed a.at a.len → q ≡ placed b.at b.len → r ≡ placed c.at c.len → s ≡ placed d.at d.len
    → n ≡ placed at len → w ≡ cuts_of a.len b.len c.len d.len len
    → record { part1 = p; part2 = q; part3 = r; part4 = s; name = n; warnings = w } ≡ found_at a b c d at len
unfolding found_at
gathered a b c d at len p q r s n w e f g h i j = rw (e, f, g, h, i, j)

-- one_part: v and w are what long answered
pub one-gathered : (from size at len : ℕ) (p n : Span) (v w : ℕ) → p ≡ placed from size → n ≡ placed at len → v ≡ longer size → w ≡ longer len
    → record { part1 = p; part2 = span 0 0; part3 = span 0 0; part4 = span 0 0; name = n; warnings = v + w } ≡ one_at from size at len
unfolding one_at
one-gathered from size at len p n v w e f g h = rw (e, f, g, h)

-- one alone is one with three empty ones behind it
one-four : (from size q at len : ℕ)
    → one_at from size at len
    ≡ found_at (record { at = from; len = size; next = q }) (record { at = q; len = 0; next = q }) (record { at = q; len = 0; next = q }) (record { at = q; len = 0; next = q }) at len
unfolding one_at found_at placed longer pick
one-four from size q at len = let z : longer size + longer len ≡ longer size + 0 + 0 + 0 + longer len = omega arith in rw z

-- the parts of a text: one after another, or one alone
module _ (m : List ℕ) (from at len : ℕ) (r : Spans) where
  pub four-found : (a b c d : Part) → a ≡ part_at m from → b ≡ part_at m a.next → c ≡ part_at m b.next → d ≡ part_at m c.next → r ≡ found_at a b c d at len → r ≡ four_from m from at len
  unfolding four_from
  four-found a b c d ea eb ec ed er = er ∙ rw (ed, ec, eb, ea)

  pub one_found : (e : ℕ) → e ≡ from + seek bar (drop from m) → from ≤ length m → length m ≤ e → r ≡ one_at from (e - from) at len → r ≡ four_from m from at len
  one_found e g h l k =
      let n = part_none m e (omega (arith, seek-within bar m from h)) in
      four-found _ _ _ _ (part-last m from e g l) n n n (k ∙ one-four from (e - from) e at len)

pub ruleset fours = (part-next, four-found)
