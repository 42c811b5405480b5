-- The turns and the ways out of the functions that divide a message. Assumes nothing.
use mathlib.Core.Path.{◌≡◌, refl, sym, ap, ◌∙◌}
use mathlib.Core.Bool.{Bool, true, false}
use mathlib.Core.List.{List, [], ◌∷◌}
use Prim.Native.Nat.{ℕ, zero, suc, ◌+◌, ◌-◌, ◌≤◌, ◌<◌}
use native.Mathlib.Omega.{arith}
use mir.Val.{Fits}
use mir.Syntax.{w64}
use lib.Dec.{leb}
use lib.ListN.{length, get_or, take, drop, length-take, length-drop}
use lib.Seq.{get_or-take, get_or-drop}
use borrow.Author.Tests.{eq-eqb, ne_eqb, le-leb, leb-true}
use Rattle.base.specs.Pick.{pick}
use Rattle.base.specs.Seek.{all, starts, seek}
use Rattle.base.proofs.Cases.{by-lt, pick-both, both-pick, pick_true, pick-false}
use Rattle.base.proofs.Seek.{never, all_head, all_tail, all_cons, seek-le, seek-here, seek-next, seek-within, starts-long}
use Rattle.scan.proofs.find.Turns.{starts-byte}
use Rattle.paper.specs.Bytes.{bar, mark}
use Rattle.scan.specs.block.Blocks.{is_other, Skips}
use Rattle.scan.proofs.block.Turns.{is-other, skip-none, skip-then, near-one}
use Rattle.text.specs.declared.span.Part.{Part}
use Rattle.text.specs.span.Places.{part_to, part_at, ended}
use Rattle.text.proofs.span.Turns as places
use Rattle.text.proofs.span.Turns.{part-bar, part_none, part-next, part-upto, part-near}
use Rattle.text.specs.division.Unnamed.{unnamed, is_plain}
use Rattle.text.proofs.division.Marks.{all-between, sought, found-starts, found-byte, found-room, to_mark, to_bar, mark-first, bar-first, unnamed-long, starts-bytes}

-- ---- bytes that end no part

-- all_plain: t and u are what all_other answered
both-plain : (s : List ℕ) → all (is_other 124) s ≡ true → all (is_other 58) s ≡ true → all is_plain s ≡ true
unfolding all is_plain
both-plain [] h i = refl
both-plain (x ∷ s) h i =
    all_cons is_plain x s (both-pick (is_other 124 x) (is_other 58 x) (all_head (is_other 124) x s h) (all_head (is_other 58) x s i))
    (both-plain s (all_tail (is_other 124) x s h) (all_tail (is_other 58) x s i))

module _ (s : List ℕ) where
  pub plain-yes : (t u : Bool) → (t ≡ true → all (is_other 124) s ≡ true) → t ≡ true → (u ≡ true → all (is_other 58) s ≡ true) → u ≡ true → all is_plain s ≡ true
  plain-yes t u h e i f = both-plain s (h e) (i f)

  pub plain-not : false ≡ true → all is_plain s ≡ true
  plain-not e = never (sym e)

pub ruleset plains = (plain-yes, plain-not)

-- n bytes at once
pub skip-size : (s : List ℕ) (at n : ℕ) (t : Bool) → n ≤ length s - at → at ≤ length s → (t ≡ true → all is_plain (take n (drop at s)) ≡ true) → t ≡ true → Skips is_plain s at (at + n)
skip-size s at n t r l h e =
    let z : at + n - at ≡ n = omega arith in
    record { from = omega arith; inside = omega arith; between = rw z (h e) }

plain_byte : (x : ℕ) → (x ≡ 124 → ⊥) → (x ≡ 58 → ⊥) → is_plain x ≡ true
unfolding is_plain
plain_byte x n m = both-pick (is_other 124 x) (is_other 58 x) (is-other 124 x n) (is-other 58 x m)

-- find_stop
pub skip-one : (s : List ℕ) (at i : ℕ) → Skips is_plain s at i → i < length s → (get_or s i 0 ≡ 124 → ⊥) → (get_or s i 0 ≡ 58 → ⊥) → Skips is_plain s at (i + 1)
skip-one s at i k l n m = near-one is_plain s at i k l (plain_byte (get_or s i 0) n m)

pub ruleset halves = (skip-none, skip-size, skip-then, skip-one)

-- ---- part_end

-- neither a `|` nor the end of a ` NP:` stands between `from` and i
pub record Open (s : List ℕ) (from i : ℕ) : Type 0 where
  pub after : from ≤ i
  pub inside : i ≤ length s
  pub bars : i ≤ to_bar s from
  pub marks : i ≤ to_mark s from + 3

not-bar : is_plain 124 ≡ false
unfolding is_plain pick
not-bar = refl

not-colon : is_plain 58 ≡ false
unfolding is_plain pick
not-colon = refl

mark-bars : (i : ℕ) → i < 4 → get_or mark i 0 ≡ 124 → ⊥
mark-bars zero h e = omega arith
mark-bars (suc zero) h e = omega arith
mark-bars (suc (suc zero)) h e = omega arith
mark-bars (suc (suc (suc zero))) h e = omega arith
mark-bars (suc (suc (suc (suc i)))) h e = omega arith

bar-here : (s : List ℕ) (i : ℕ) → i < length s → get_or s i 0 ≡ 124 → starts bar (drop i s) ≡ true
bar-here s i h e = starts-byte 124 s i h ∙ pick_true _ _ (eq-eqb _ _ e)

bar-away : (s : List ℕ) (i : ℕ) → i < length s → (get_or s i 0 ≡ 124 → ⊥) → starts bar (drop i s) ≡ false
bar-away s i h e = starts-byte 124 s i h ∙ pick-false _ _ (ne_eqb _ _ e)

module _ (s : List ℕ) (from : ℕ) where
  pub open-first : from ≤ length s → Open s from from
  open-first h = record { after = omega arith; inside = h; bars = omega arith; marks = omega arith }

  -- the bytes of the first mark, and of the first bar
  colon : to_mark s from < length s → get_or s (to_mark s from + 3) 0 ≡ 58
  colon h = found-byte mark s from h 3 (omega arith)

  bar-there : to_bar s from < length s → get_or s (to_bar s from) 0 ≡ 124
  bar-there h = let z : to_bar s from + 0 ≡ to_bar s from = omega arith in rw z at (found-byte bar s from h 0 (omega arith))

  pub end-within : from ≤ length s → from + seek bar (drop from (unnamed s from)) ≤ length s
  end-within h =
      omega (arith, seek-le bar (drop from (unnamed s from)), length-drop from (unnamed s from), length-take (to_mark s from) s)

  -- e is what find_stop answered
  module _ (i e : ℕ) (o : Open s from i) (k : Skips is_plain s i e) where
    over-bars : e ≤ to_bar s from
    over-bars =
        by-lt (to_bar s from) e
        (λ l.
        let a = o.bars in
        let b = k.inside in
        let p = all-between is_plain s i (e - i) k.between (to_bar s from) (omega arith) (omega arith) (omega arith) in
        never (sym (rw (bar-there (omega arith)) at p) ∙ not-bar))
        (λ l. l)

    over-marks : e ≤ to_mark s from + 3
    over-marks =
        by-lt (to_mark s from + 3) e
        (λ l.
        let a = o.marks in
        let b = k.inside in
        let p = all-between is_plain s i (e - i) k.between (to_mark s from + 3) (omega arith) (omega arith) (omega arith) in
        never (sym (rw (colon (omega arith)) at p) ∙ not-colon))
        (λ l. l)

    pub stop-after : from ≤ e
    stop-after = omega (arith, o.after, k.from)

    pub stop-inside : e ≤ length s
    stop-inside = k.inside

    pub stop-later : i ≤ e
    stop-later = k.from

    -- nothing ends the part but the line
    pub open-end : e ≡ length s → e ≡ from + seek bar (drop from (unnamed s from))
    open-end z =
        let m : to_mark s from ≡ e =
        by-lt (to_mark s from) (length s) (λ l. absurd (omega (arith, over-marks, found-room mark s from l)))
        (λ l. omega (arith, stop-after, seek-within mark s from (omega (arith, stop-after)))) in
        sym m ∙ mark-first s from (omega (arith, over-bars))

    module _ (other : e ≡ length s → ⊥) where
      l : e < length s
      l = by-lt e (length s) (λ m. m) (λ m. absurd (other (omega (arith, stop-inside))))

      -- a `|` does
      past-mark : get_or s e 0 ≡ 124 → e ≤ to_mark s from
      past-mark g =
          by-lt (to_mark s from) e
          (λ m.
          let z : to_mark s from + (e - to_mark s from) ≡ e = omega arith in
          let f = over-marks in
          let b = found-byte mark s from (omega (arith, l)) (e - to_mark s from) (omega arith) in
          absurd (mark-bars (e - to_mark s from) (omega arith) (sym (rw z at b) ∙ g)))
          (λ m. m)

      pub open-bar : get_or s e 0 ≡ 124 → e ≡ from + seek bar (drop from (unnamed s from))
      open-bar g =
          let b : to_bar s from ≡ e = sought bar s from e stop-after over-bars ∙ seek-here bar s e l (bar-here s e l g) in
          sym b ∙ bar-first s from (omega (arith, past-mark g))

      -- t is what ends_mark answered
      module _ (t : Bool) (q : t ≡ pick (leb 3 (e - from)) (starts mark (drop (e - 3) s)) false) where
        module _ (y : t ≡ true) where
          mark-there : (leb 3 (e - from) ≡ true) × (starts mark (drop (e - 3) s) ≡ true)
          mark-there = pick-both (leb 3 (e - from)) (starts mark (drop (e - 3) s)) (sym q ∙ y)

          pub mark-room : 3 ≤ e
          mark-room = omega (arith, leb-true 3 (e - from) mark-there.0)

          pub open-mark : e - 3 ≡ from + seek bar (drop from (unnamed s from))
          open-mark =
              let a = leb-true 3 (e - from) mark-there.0 in
              let f = over-marks in
              let m : to_mark s from ≡ e - 3 = sought mark s from (e - 3) (omega arith) (omega arith) ∙ seek-here mark s (e - 3) (omega (arith, l)) mark-there.1 in
              sym m ∙ mark-first s from (omega (arith, over-bars))

        -- nothing does
        module _ (n : t ≡ false) (g : get_or s e 0 ≡ 124 → ⊥) where
          more-marks : e + 1 ≤ to_mark s from + 3
          more-marks =
              by-lt (to_mark s from + 3) (e + 1)
              (λ m.
              let f = over-marks in
              let z : to_mark s from ≡ e - 3 = omega arith in
              let b = found-starts mark s from (omega (arith, l)) in
              never (sym (both-pick (leb 3 (e - from)) (starts mark (drop (e - 3) s)) (le-leb 3 (e - from) (omega arith)) (rw z at b)) ∙ sym q ∙ n))
              (λ m. m)

          pub open_next : Open s from (e + 1)
          open_next =
              record {
                after = omega (arith, stop-after);
                inside = omega (arith, l);
                bars = omega (arith, sought bar s from e stop-after over-bars, seek-next bar s e l (bar-away s e l g));
                marks = more-marks;
              }

  pub open-past : (i : ℕ) → Open s from i → length s ≤ i → i ≡ from + seek bar (drop from (unnamed s from))
  open-past i o h = let l = o.inside in open-end i i o (skip-none is_plain s i l) (omega arith)

pub ruleset opens = (open-first, stop-after, stop-inside, stop-later, open-end, open-bar, mark-room, open-mark, open_next, open-past)

-- what no `|` ends goes to the end
pub last-next : (m : List ℕ) (i : ℕ) (p : Part) → p ≡ part_at m i → i ≤ length m → ended p ≡ 0 → p.next ≡ length m
unfolding part_to pick
last-next m i p g h z =
    by-lt (i + seek bar (drop i m)) (length m)
    (λ l. absurd (let e = g ∙ sym (part-bar m i (i + seek bar (drop i m)) refl l) in omega (arith, rw e at z)))
    (λ l. let e = g ∙ sym (places.part-last m i (i + seek bar (drop i m)) refl l) in rw e (omega (arith, seek-within bar m i h)))

-- ---- first_part: e is what part_end answered, t what starts_at did

module _ (s : List ℕ) (from e : ℕ) (h : from ≤ length s) (g : e ≡ from + seek bar (drop from (unnamed s from))) where
  pub part-within : e ≤ length s
  part-within = omega (arith, end-within s from h)

  pub part-begins : from ≤ e
  part-begins = omega arith

  module _ (t : Bool) (q : t ≡ starts bar (drop e s)) where
    module _ (y : t ≡ true) where
      pub part-before : e < length s
      part-before = omega (arith, starts-long bar (drop e s) (sym q ∙ y), length-drop e s)

      pub part_room : length s < 18446744073709551616 → Fits w64 (e + 1)
      part_room b = omega (arith, part-before)

      bar-stands : get_or s e 0 ≡ 124
      bar-stands =
          let z : e + 0 ≡ e = omega arith in
          rw z at (sym (get_or-drop e s 0 0) ∙ starts-bytes bar (drop e s) (sym q ∙ y) 0 (omega arith))

      before-mark : e < length (unnamed s from)
      before-mark =
          by-lt e (length (unnamed s from)) (λ l. l)
          (λ l.
          let m : to_mark s from ≡ e = omega (arith, unnamed-long s from h, seek-within bar (unnamed s from) from (omega (arith, unnamed-long s from h))) in
          let z : to_mark s from + 0 ≡ e = omega arith in
          let b = found-byte mark s from (omega (arith, part-before)) 0 (omega arith) in
          absurd (mark-bars 0 (omega arith) (sym (rw z at b) ∙ bar-stands)))

      pub part-ended : record { at = from; len = e - from; next = e + 1 } ≡ part_at (unnamed s from) from
      part-ended = part-bar (unnamed s from) from e g before-mark

    pub part-last : t ≡ false → record { at = from; len = e - from; next = e } ≡ part_at (unnamed s from) from
    part-last n =
        by-lt e (length (unnamed s from))
        (λ l.
        let z : from + seek bar (drop from (unnamed s from)) + 0 ≡ e = omega arith in
        let b = found-byte bar (unnamed s from) from (omega arith) 0 (omega arith) in
        let c = get_or-take (to_mark s from) s e 0 (omega (arith, unnamed-long s from h)) in
        never (sym (bar-here s e (omega (arith, length-take (to_mark s from) s)) (sym c ∙ (rw z at b))) ∙ sym q ∙ n))
        (λ l. places.part-last (unnamed s from) from e g l)

pub ruleset firsts = (part-within, part-begins, part-before, part_room, part-ended, part-last)

-- ---- next_part: n is what barred answered

module _ (s : List ℕ) (p : Part) (h : p.at ≤ length s) (g : p ≡ part_at (unnamed s p.at) p.at) where
  at-within : p.at ≤ length (unnamed s p.at)
  at-within = omega (arith, unnamed-long s p.at h)

  next-near : p.next ≤ length (unnamed s p.at)
  next-near = part-next (unnamed s p.at) p.at p g at-within

  pub next-within : p.next ≤ length s
  next-within = omega (arith, next-near, length-take (to_mark s p.at) s)

  pub next-upto : p.at + p.len ≤ p.next
  next-upto = part-upto (unnamed s p.at) p.at p g

  pub next-behind : p.next ≤ p.at + p.len + 1
  next-behind = part-near (unnamed s p.at) p.at p g

  -- the same message
  pub same-unnamed : unnamed s p.next ≡ unnamed s p.at
  same-unnamed =
      ap (λ (k : ℕ). take k s)
      (sym (sought mark s p.at p.next (omega (arith, next-upto)) (omega (arith, next-near, unnamed-long s p.at h))))

  module _ (n : ℕ) (q : n ≡ ended p) where
    pub next-none : n ≡ 0 → record { at = p.next; len = 0; next = p.next } ≡ part_at (unnamed s p.at) p.next
    next-none z = part_none (unnamed s p.at) p.next (last-next (unnamed s p.at) p.at p g at-within (sym q ∙ z))

  pub next-some : (r : Part) → r ≡ part_at (unnamed s p.next) p.next → r ≡ part_at (unnamed s p.at) p.next
  next-some r e = e ∙ ap (λ (m : List ℕ). part_at m p.next) same-unnamed

-- the part r behind p is one of the same message
module _ (s : List ℕ) (p : Part) (h : p.at ≤ length s) (g : p ≡ part_at (unnamed s p.at) p.at) (r : Part) (e : r ≡ part_at (unnamed s p.at) p.next) where
  follow-at : r.at ≡ p.next
  unfolding part_to
  follow-at = ap (λ (x : Part). x.at) e

  pub follow-same : unnamed s r.at ≡ unnamed s p.at
  follow-same = rw follow-at (same-unnamed s p h g)

  pub follow-within : r.at ≤ length s
  follow-within = omega (arith, follow-at, next-within s p h g)

  pub follow-part : r ≡ part_at (unnamed s r.at) r.at
  follow-part =
      e ∙ (ap (λ (m : List ℕ). part_at m p.next) (sym follow-same) ∙ ap (λ (k : ℕ). part_at (unnamed s r.at) k) (sym follow-at))

pub ruleset follows = (follow-within, follow-part)

pub ruleset nexts = (next-within, next-upto, next-behind, next-none, next-some)
