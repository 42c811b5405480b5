-- Where `|` and ` NP:` first stand from a place on, and where a part ends by them. Assumes nothing.
use mathlib.Core.Path.{◌≡◌, refl, sym, ap, ◌∙◌}
use mathlib.Core.Bool.{Bool, true}
use mathlib.Core.List.{List, [], ◌∷◌}
use Prim.Native.Nat.{ℕ, zero, suc, ◌+◌, ◌-◌, ◌≤◌, ◌<◌}
use native.Mathlib.Omega.{arith}
use lib.Dec.{eqb}
use lib.ListN.{length, get_or, take, drop, length-take, length-drop}
use lib.Seq.{drop-drop, get_or-take, get_or-drop}
use borrow.Author.Tests.{eqb-true}
use Rattle.base.specs.Pick.{pick}
use Rattle.base.specs.Seek.{all, starts, seek}
use Rattle.base.proofs.Cases.{by-test}
use Rattle.base.proofs.Lists.{drop-take}
use Rattle.base.proofs.Seek.{never, all_head, all_tail, seek-le, starts-long}
use Rattle.paper.specs.Bytes.{bar, mark}
use Rattle.text.specs.division.Unnamed.{unnamed}

-- ---- any pattern

-- from a later place on, up to its own
seek-from : (ps s : List ℕ) (k : ℕ) → k ≤ seek ps s → seek ps s ≡ k + seek ps (drop k s)
unfolding seek pick
seek-from ps [] zero h = omega arith
seek-from ps (x ∷ s) zero h = omega arith
seek-from ps [] (suc k) h = absurd (omega arith)
seek-from ps (x ∷ s) (suc k) h =
    by-test (starts ps (x ∷ s)) (λ e. absurd (omega (arith, simp e at h)))
    (λ e. simp e (omega (arith, seek-from ps s k (omega (arith, simp e at h)))))

-- where it is found it stands
starts-found : (ps s : List ℕ) → seek ps s < length s → starts ps (drop (seek ps s) s) ≡ true
unfolding seek pick
starts-found ps [] h = absurd (omega arith)
starts-found ps (x ∷ s) h =
    by-test (starts ps (x ∷ s)) (λ e. simp e)
    (λ e. simp e (starts-found ps s (omega (arith, simp e at h))))

-- its bytes stand there
pub starts-bytes : (ps s : List ℕ) → starts ps s ≡ true → (i : ℕ) → i < length ps → get_or s i 0 ≡ get_or ps i 0
unfolding starts pick
starts-bytes [] s h i l = absurd (omega arith)
starts-bytes (p ∷ ps) [] h i l = never (sym h)
starts-bytes (p ∷ ps) (x ∷ s) h zero l = by-test (eqb x p) (λ e. eqb-true x p e) (λ e. never (sym (simp e at h)))
starts-bytes (p ∷ ps) (x ∷ s) h (suc i) l =
    by-test (eqb x p) (λ e. starts-bytes ps s (simp e at h) i (omega arith)) (λ e. never (sym (simp e at h)))

-- what all bytes pass, each does
all-each : (p : ℕ → Bool) (s : List ℕ) → all p s ≡ true → (i : ℕ) → i < length s → p (get_or s i 0) ≡ true
all-each p [] h i l = absurd (omega arith)
all-each p (x ∷ s) h zero l = all_head p x s h
all-each p (x ∷ s) h (suc i) l = all-each p s (all_tail p x s h) i (omega arith)

pub all-between : (p : ℕ → Bool) (s : List ℕ) (i k : ℕ) → all p (take k (drop i s)) ≡ true → (j : ℕ) → i ≤ j → j < i + k → j < length s → p (get_or s j 0) ≡ true
all-between p s i k h j l r n =
    let e : i + (j - i) ≡ j = omega arith in
    let g = get_or-take k (drop i s) (j - i) 0 (omega arith) in
    let d = get_or-drop i s (j - i) 0 in
    rw (g, d, e) at (all-each p (take k (drop i s)) h (j - i) (omega (arith, length-take k (drop i s), length-drop i s)))

-- from a place of a text on
module _ (ps s : List ℕ) (from : ℕ) where
  pub sought : (i : ℕ) → from ≤ i → i ≤ from + seek ps (drop from s) → from + seek ps (drop from s) ≡ i + seek ps (drop i s)
  sought i l h =
      let j : from + (i - from) ≡ i = omega arith in
      let e = seek-from ps (drop from s) (i - from) (omega arith) in
      let d : drop (i - from) (drop from s) ≡ drop i s = drop-drop (i - from) from s ∙ ap (λ (k : ℕ). drop k s) j in
      let f : seek ps (drop (i - from) (drop from s)) ≡ seek ps (drop i s) = ap (seek ps) d in
      omega arith

  pub found-starts : from + seek ps (drop from s) < length s → starts ps (drop (from + seek ps (drop from s)) s) ≡ true
  found-starts h = rw (← (drop-drop (seek ps (drop from s)) from s)) (starts-found ps (drop from s) (omega (arith, length-drop from s)))

  pub found-byte : from + seek ps (drop from s) < length s → (i : ℕ) → i < length ps → get_or s (from + seek ps (drop from s) + i) 0 ≡ get_or ps i 0
  found-byte h i l =
      rw (← (get_or-drop (from + seek ps (drop from s)) s i 0)) (starts-bytes ps (drop (from + seek ps (drop from s)) s) (found-starts h) i l)

  pub found-room : from + seek ps (drop from s) < length s → from + seek ps (drop from s) + length ps ≤ length s
  found-room h =
      omega (arith, starts-long ps (drop (from + seek ps (drop from s)) s) (found-starts h), length-drop (from + seek ps (drop from s)) s)

-- ---- where a part ends

-- no `|` before k
bar-none : (s : List ℕ) (k : ℕ) → k ≤ length s → k ≤ seek bar s → seek bar (take k s) ≡ k
unfolding seek starts pick
bar-none [] zero l h = refl
bar-none (x ∷ s) zero l h = refl
bar-none [] (suc k) l h = absurd (omega arith)
bar-none (x ∷ s) (suc k) l h =
    by-test (eqb x 124) (λ e. absurd (omega (arith, simp e at h)))
    (λ e. simp e (ap suc (bar-none s k (omega arith) (omega (arith, simp e at h)))))

-- one at or before k
bar-some : (s : List ℕ) (k : ℕ) → seek bar s ≤ k → seek bar (take k s) ≡ seek bar s
unfolding seek starts pick
bar-some [] zero h = refl
bar-some (x ∷ s) zero h = omega arith
bar-some [] (suc k) h = refl
bar-some (x ∷ s) (suc k) h =
    by-test (eqb x 124) (λ e. simp e)
    (λ e. simp e (ap suc (bar-some s k (omega (arith, simp e at h)))))

module _ (s : List ℕ) (from : ℕ) where
  abbrev pub to_mark : ℕ
  to_mark = from + seek mark (drop from s)

  abbrev pub to_bar : ℕ
  to_bar = from + seek bar (drop from s)

  -- the message
  same-message : drop from (unnamed s from) ≡ take (seek mark (drop from s)) (drop from s)
  same-message =
      let e : from + seek mark (drop from s) - from ≡ seek mark (drop from s) = omega arith in
      drop-take from (from + seek mark (drop from s)) s ∙ rw e

  pub mark-first : to_mark ≤ to_bar → to_mark ≡ from + seek bar (drop from (unnamed s from))
  mark-first h = rw (same-message, bar-none (drop from s) (seek mark (drop from s)) (seek-le mark (drop from s)) (omega arith))

  pub bar-first : to_bar ≤ to_mark → to_bar ≡ from + seek bar (drop from (unnamed s from))
  bar-first h = rw (same-message, bar-some (drop from s) (seek mark (drop from s)) (omega arith))

  pub unnamed-long : from ≤ length s → length (unnamed s from) ≡ to_mark
  unnamed-long h = omega (arith, length-take (from + seek mark (drop from s)) s, seek-le mark (drop from s), length-drop from s)
