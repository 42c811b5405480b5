-- The bytes at the places that `four_from` gives are the message's parts and the name, cut. Assumes nothing.
use mathlib.Core.Path.{◌≡◌, refl, sym, ap, ◌∙◌}
use mathlib.Core.Bool.{Bool, true, false}
use mathlib.Core.List.{List, [], ◌∷◌, ◌++◌, map}
use Prim.Native.Nat.{ℕ, zero, suc, ◌+◌, ◌-◌, ◌≤◌, ◌<◌}
use native.Mathlib.Omega.{arith}
use lib.Dec.{eqb, ltb}
use lib.ListN.{length, take, drop, drop_of_length-le, length-take, length-drop, length-append}
use lib.Seq.{drop-drop, take-take, take_all}
use borrow.Author.Tests.{ltb-true, ltb-false, eqb-true, eqb-false, lt-ltb, le-ltb}
use Rattle.base.specs.Pick.{pick}
use Rattle.base.specs.Seek.{starts, seek, before}
use Rattle.base.proofs.Cases.{by-test, by-lt}
use Rattle.base.proofs.Seek.{seek-le, seek-within}
use Rattle.base.proofs.Lists.{drop-take}
use Rattle.paper.specs.Warnings.{Warning, long_part, long_name, Notice}
use Rattle.paper.specs.Bytes.{bar, null}
use Rattle.paper.specs.Texts.{Piece, piece, Texts, others, divide, cut, over, overs, cuts, pad}
use Rattle.text.specs.span.Held.{piece_at, texts_at, Within, Held}
use Rattle.text.specs.Told.{count_texts}
use Rattle.text.specs.span.Places.{part_to, part_at, placed, longer, found_at, four_from}
use Rattle.text.proofs.span.Turns.{part-next}

-- bytes within the beginning m of s
within : (s m : List ℕ) (e a k : ℕ) → m ≡ take e s → a + k ≤ length m → take k (drop a m) ≡ take k (drop a s)
within s m e a k g h =
    let l : k ≤ e - a = omega (arith, ap length g, length-take e s) in
    rw (g, drop-take a e s) (take-take k (e - a) (drop a s) l)

some : (s : List ℕ) → 0 < length s → null s ≡ false
unfolding null
some [] h = absurd (omega arith)
some (x ∷ s) h = refl

same-piece : (at : ℕ) {s t : List ℕ} → s ≡ t → piece at s ≡ piece at t
same-piece at e = rw e

placed-bytes : (s : List ℕ) (at len : ℕ) → at + len ≤ length s → piece_at s (placed at len) ≡ cut (piece at (take len (drop at s)))
unfolding placed cut pick null
placed-bytes s at len h =
    by-test (eqb len 0) (λ e. rw (eqb-true len 0 e)) (λ e.
    let n : null (take len (drop at s)) ≡ false = some (take len (drop at s)) (omega (arith, eqb-false len 0 e, length-take len (drop at s), length-drop at s)) in
    by-test (ltb 35 len) (λ f.
    let l : 35 ≤ len = omega (arith, ltb-true 35 len f) in
    simp (e, f, n) (same-piece at (sym (take-take 35 len (drop at s) l)))) (λ f.
    let l : length (take len (drop at s)) ≤ 35 = omega (arith, ltb-false 35 len f, length-take len (drop at s)) in
    simp (e, f, n) (same-piece at (sym (take_all 35 (take len (drop at s)) l)))))

placed-within : (s : List ℕ) (at len : ℕ) → at + len ≤ length s → Within s (placed at len)
unfolding placed pick
placed-within s at len h =
    by-test (eqb len 0) (λ e. simp e (omega arith)) (λ e.
    by-test (ltb 35 len) (λ f. simp (e, f) (omega (arith, ltb-true 35 len f))) (λ f. simp (e, f) h))

-- a warning that is given counts one
one-or-none : (b : Bool) (n : Notice) → pick b 1 0 ≡ length (pick b (n ∷ []) [])
unfolding pick
one-or-none true n = refl
one-or-none false n = refl

longer-over : (w : Warning) (at : ℕ) (p : List ℕ) (k : ℕ) → length p ≡ k → longer k ≡ length (over w (piece at p))
unfolding longer over
longer-over w at p k e = rw e (one-or-none (ltb 35 k) _)

-- parts, filled up to n
pad-cut : (n : ℕ) (ps : List Piece) → pad n (map cut ps) ≡ map cut (pad n ps)
unfolding pad cut pick null
pad-cut zero ps = refl
pad-cut (suc n) [] = ap (λ (l : List Piece). piece 0 [] ∷ l) (pad-cut n [])
pad-cut (suc n) (p ∷ ps) = ap (λ (l : List Piece). cut p ∷ l) (pad-cut n ps)

overs-pad : (n : ℕ) (ps : List Piece) → length ps ≤ n → overs ps ≡ overs (pad n ps)
unfolding pad overs over pick
overs-pad zero [] h = refl
overs-pad zero (p ∷ ps) h = absurd (omega arith)
overs-pad (suc n) [] h = overs-pad n [] (omega arith)
overs-pad (suc n) (p ∷ ps) h = ap (λ (l : List Notice). over long_part p ++ l) (overs-pad n ps (omega arith))

-- an empty part at the end counts as a missing one
cut-last : (n k : ℕ) → map cut (pad n (piece k [] ∷ [])) ≡ map cut (pad n [])
unfolding pad cut pick null
cut-last zero k = refl
cut-last (suc n) k = refl

overs-last : (n k : ℕ) → overs (pad n (piece k [] ∷ [])) ≡ overs (pad n [])
unfolding pad overs over pick
overs-last zero k = refl
overs-last (suc n) k = refl

-- the parts behind the first begin where the first piece says
pub others-skip : (at : ℕ) (s : List ℕ) → seek bar s < length s → others at s ≡ divide (at + suc (seek bar s)) (drop (suc (seek bar s)) s)
unfolding others seek starts pick
others-skip at [] h = absurd (omega arith)
others-skip at (x ∷ s) h =
    by-test (eqb x 124) (λ e. simp e)
    (λ e.
    let k : at + 1 + suc (seek bar s) ≡ at + suc (suc (seek bar s)) = omega arith in
    simp e (others-skip (at + 1) s (omega (arith, simp e at h)) ∙ ap (λ (a : ℕ). divide a (drop (suc (seek bar s)) s)) k))

pub others-last : (at : ℕ) (s : List ℕ) → length s ≤ seek bar s → others at s ≡ []
unfolding others seek starts pick
others-last at [] h = refl
others-last at (x ∷ s) h =
    by-test (eqb x 124) (λ e. absurd (omega (arith, simp e at h)))
    (λ e. simp e (others-last (at + 1) s (omega (arith, simp e at h))))

-- The rest of the parts, however many are wanted, begins at the next place: for what does not see the place of an empty part.
module _ {A : Type 0} (f : List Piece → A) (n : ℕ) (last : (k : ℕ) → f (pad n (piece k [] ∷ [])) ≡ f (pad n [])) where
  pad-next : (m : List ℕ) (a : ℕ) → a ≤ length m → f (pad n (others a (drop a m))) ≡ f (pad n (divide (part_at m a).next (drop (part_at m a).next m)))
  unfolding part_to pick seek others
  pad-next m a h =
      by-lt (a + seek bar (drop a m)) (length m)
      (λ l.
      let e : a + seek bar (drop a m) + 1 ≡ a + suc (seek bar (drop a m)) = omega arith in
      let k : seek bar (drop a m) < length (drop a m) = omega (arith, length-drop a m) in
      rw (lt-ltb (a + seek bar (drop a m)) (length m) l, e, ← (drop-drop (suc (seek bar (drop a m))) a m))
      (ap (λ (ps : List Piece). f (pad n ps)) (others-skip a (drop a m) k)))
      (λ l.
      let k : length (drop a m) ≤ seek bar (drop a m) = omega (arith, length-drop a m) in
      rw (le-ltb (a + seek bar (drop a m)) (length m) l, others-last a (drop a m) k, drop_of_length-le m l) (sym (last (a + seek bar (drop a m)))))

abbrev part : List ℕ → ℕ → Piece
part m i = piece i (before bar (drop i m))

next-within : (m : List ℕ) (i : ℕ) → i ≤ length m → (part_at m i).next ≤ length m
next-within m i h = part-next m i (part_at m i) refl h

module _ (s m : List ℕ) (e : ℕ) (g : m ≡ take e s) (i : ℕ) (h : i ≤ length m) where
  part-inside : (part_at m i).at + (part_at m i).len ≤ length s
  unfolding part_to
  part-inside = omega (arith, seek-within bar m i h, ap length g, length-take e s)

  part-bytes : piece_at s (placed (part_at m i).at (part_at m i).len) ≡ cut (part m i)
  unfolding part_to
  part-bytes =
      let k : i + seek bar (drop i m) - i ≡ seek bar (drop i m) = omega arith in
      let b : take (i + seek bar (drop i m) - i) (drop i s) ≡ before bar (drop i m) = rw k (sym (within s m e i (seek bar (drop i m)) g (seek-within bar m i h))) in
      placed-bytes s i (i + seek bar (drop i m) - i) part-inside ∙ ap cut (same-piece i b)

part-longer : (m : List ℕ) (i : ℕ) → longer (part_at m i).len ≡ length (over long_part (part m i))
unfolding part_to
part-longer m i =
    longer-over long_part i (before bar (drop i m)) (i + seek bar (drop i m) - i) (omega (arith, length-take (seek bar (drop i m)) (drop i m), seek-le bar (drop i m)))

same-texts : {ps qs : List Piece} {n k : Piece} {v w : ℕ} → ps ≡ qs → n ≡ k → v ≡ w
    → ◌≡◌ {A = Texts ℕ} (record { parts = ps; name = n; warnings = v }) (record { parts = qs; name = k; warnings = w })
same-texts e f g = rw (e, f, g)

-- how many the warnings of four parts and a name are
five-long : (a b c d n : List Notice) → length ((a ++ (b ++ (c ++ (d ++ [])))) ++ n) ≡ length a + length b + length c + length d + length n
five-long a b c d n =
    omega (
      arith,
      length-append (a ++ (b ++ (c ++ (d ++ [])))) n,
      length-append a (b ++ (c ++ (d ++ []))),
      length-append b (c ++ (d ++ [])),
      length-append c (d ++ []),
      length-append d [],
    )

module _ (s m : List ℕ) (e : ℕ) (g : m ≡ take e s) (from : ℕ) (h : from ≤ length m) (at len : ℕ) (room : at + len ≤ length s) where
  i2 : ℕ
  i2 = (part_at m from).next

  i3 : ℕ
  i3 = (part_at m i2).next

  i4 : ℕ
  i4 = (part_at m i3).next

  h2 : i2 ≤ length m
  unfolding i2
  h2 = next-within m from h

  h3 : i3 ≤ length m
  unfolding i3
  h3 = next-within m i2 h2

  h4 : i4 ≤ length m
  unfolding i4
  h4 = next-within m i3 h3

  four : map cut (pad 4 (divide from (drop from m))) ≡ cut (part m from) ∷ cut (part m i2) ∷ cut (part m i3) ∷ cut (part m i4) ∷ []
  unfolding pad i2 i3 i4
  four =
      rw (pad-next (map cut) 3 (cut-last 3) m from h, pad-next (map cut) 2 (cut-last 2) m i2 h2, pad-next (map cut) 1 (cut-last 1) m i3 h3)

  total : length (divide from (drop from m)) ≤ 4
      → overs (divide from (drop from m)) ≡ over long_part (part m from) ++ (over long_part (part m i2) ++ (over long_part (part m i3) ++ (over long_part (part m i4) ++ [])))
  unfolding overs pad i2 i3 i4
  total l =
      overs-pad 4 (divide from (drop from m)) l
      ∙ rw (pad-next overs 3 (overs-last 3) m from h, pad-next overs 2 (overs-last 2) m i2 h2, pad-next overs 1 (overs-last 1) m i3 h3)

  pub warned : length (divide from (drop from m)) ≤ 4 → (four_from m from at len).warnings ≡ length (cuts (divide from (drop from m)) (piece at (take len (drop at s))))
  unfolding four_from found_at i2 i3 i4
  warned l =
      let name = over long_name (piece at (take len (drop at s))) in
      omega (
        arith,
        ap (λ (w : List Notice). length (w ++ name)) (total l),
        five-long (over long_part (part m from)) (over long_part (part m i2)) (over long_part (part m i3)) (over long_part (part m i4)) name,
        part-longer m from,
        part-longer m i2,
        part-longer m i3,
        part-longer m i4,
        longer-over long_name at (take len (drop at s)) len (omega (arith, length-take len (drop at s), length-drop at s)),
      )

  pub found_right : length (divide from (drop from m)) ≤ 4
      → texts_at s (four_from m from at len)
      ≡ count_texts (record { parts = pad 4 (map cut (divide from (drop from m))); name = cut (piece at (take len (drop at s))); warnings = cuts (divide from (drop from m)) (piece at (take len (drop at s))) })
  unfolding four_from found_at i2 i3 i4
  found_right l =
      same-texts
      (rw (part-bytes s m e g from h, part-bytes s m e g i2 h2, part-bytes s m e g i3 h3, part-bytes s m e g i4 h4)
      (sym (pad-cut 4 (divide from (drop from m)) ∙ four)))
      (placed-bytes s at len room)
      (warned l)

  pub found-held : Held s (four_from m from at len)
  unfolding four_from found_at i2 i3 i4
  found-held =
      record {
        first = placed-within s _ _ (part-inside s m e g from h);
        second = placed-within s _ _ (part-inside s m e g i2 h2);
        third = placed-within s _ _ (part-inside s m e g i3 h3);
        fourth = placed-within s _ _ (part-inside s m e g i4 h4);
        named = placed-within s at len room;
      }
