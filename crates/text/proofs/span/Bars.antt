-- How many `|` stand in a text, by the parts that they end. Assumes nothing.
use mathlib.Core.Path.{◌≡◌, refl, sym, ◌∙◌}
use mathlib.Core.Logic.{◌⊎◌, inl, inr, ⊎_elim}
use mathlib.Core.List.{List}
use Prim.Native.Nat.{ℕ, ◌+◌, ◌≤◌, ◌<◌}
use native.Mathlib.Omega.{arith}
use lib.ListN.{length, drop, drop_of_length-le}
use Rattle.base.specs.Seek.{seek}
use Rattle.base.proofs.Cases.{by-lt}
use Rattle.paper.specs.Bytes.{bar}
use Rattle.paper.specs.Texts.{others}
use Rattle.text.specs.span.Places.{part_at, ended}
use Rattle.text.specs.declared.span.Part.{Part}
use Rattle.text.proofs.span.Turns.{part-bar, part-last, part-next, bars-some, bars-none}

-- how many stand from i on
abbrev pub count : List ℕ → ℕ → ℕ
count m i = length (others i (drop i m))

count-end : (m : List ℕ) (i : ℕ) → length m ≤ i → count m i ≡ 0
unfolding others
count-end m i h = rw (drop_of_length-le m h)

-- a part that a bar ends, or the last one
record Step (m : List ℕ) (i : ℕ) (p : Part) : Type 0 where
  behind : count m i ≡ ended p + count m p.next
  either : (ended p ≡ 1) ⊎ ((ended p ≡ 0) × (count m p.next ≡ 0))

step : (m : List ℕ) (i : ℕ) (p : Part) → p ≡ part_at m i → i ≤ length m → Step m i p
step m i p g h =
    by-lt (i + seek bar (drop i m)) (length m)
    (λ l.
    let e = g ∙ sym (part-bar m i (i + seek bar (drop i m)) refl l) in
    let s = bars-some m i 0 i (i + seek bar (drop i m)) (omega arith) refl h l in
    rw e (record { behind = omega arith; either = inl (omega arith) }))
    (λ l.
    let e = g ∙ sym (part-last m i (i + seek bar (drop i m)) refl l) in
    let n = bars-none m i 0 i (i + seek bar (drop i m)) (omega arith) refl h l in
    let z = count-end m (i + seek bar (drop i m)) l in
    rw e (record { behind = omega arith; either = inr (omega arith, z) }))

-- four parts one after another: n of them are ended by a bar
module _ (m : List ℕ) (from : ℕ) (a b c d : Part) (h : from ≤ length m) (ea : a ≡ part_at m from) (eb : b ≡ part_at m a.next)
    (ec : c ≡ part_at m b.next) (ed : d ≡ part_at m c.next) (n : ℕ) (g : n ≡ ended a + ended b + ended c + ended d) where
  hb : a.next ≤ length m
  hb = part-next m from a ea h

  hc : b.next ≤ length m
  hc = part-next m a.next b eb hb

  hd : c.next ≤ length m
  hd = part-next m b.next c ec hc

  -- so many stand there at least
  pub count-least : n ≤ count m from
  count-least =
      omega (arith, (step m from a ea h).behind, (step m a.next b eb hb).behind, (step m b.next c ec hc).behind, (step m c.next d ed hd).behind)

  -- and no more, if they are fewer than four
  pub count-few : n < 4 → count m from ≡ n
  count-few l =
      let sa = step m from a ea h in
      let sb = step m a.next b eb hb in
      let sc = step m b.next c ec hc in
      let sd = step m c.next d ed hd in
      let pa = sa.behind in
      let pb = sb.behind in
      let pc = sc.behind in
      let pd = sd.behind in
      ⊎_elim (λ x. ⊎_elim (λ y. ⊎_elim (λ z. ⊎_elim (λ w. absurd (omega arith)) (λ w. omega (arith, w.0, w.1)) sd.either) (λ z. omega (arith, z.0, z.1)) sc.either) (λ y. omega (arith, y.0, y.1)) sb.either)
      (λ x. omega (arith, x.0, x.1)) sa.either
