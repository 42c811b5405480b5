-- The loop of `put_fixed`: with the digits that are left put in front, the output is what it is to be. Assumes nothing.
use Rattle.std.proofs.Common.{◌≡◌, ℕ, ◌+◌, ◌-◌, ◌*◌, ◌/◌, ◌%◌, ◌^◌, ◌<◌, ◌≤◌, List, ◌++◌, length, take, drop, sym, ap, ◌∙◌, append_assoc, add_assoc, arith, length-append, length-take-le, take-take, drop_at}
use lib.Seq.{take-append-le}
use Rattle.base.specs.Put.{put, Wrote}
use Rattle.out.proofs.put.Room.{wrote-length}
use Rattle.paper.specs.Numerals.{fixed}
use Rattle.numeral.proofs.Fixed.{fixed-length}
use Rattle.numeral.proofs.Join.{join-fixed}

-- a text, and a text in front of it
put_front : (out : List ℕ) (at : ℕ) (a b : List ℕ) → at + length a + length b ≤ length out → put (put out (at + length a) b) at a ≡ put out at (a ++ b)
unfolding put
put_front out at a b h =
    let long : length (take (at + length a) out) ≡ at + length a = length-take-le (at + length a) out (omega arith) in
    rw (take-append-le at (take (at + length a) out) (b ++ drop (at + length a + length b) out) (omega arith), take-take at (at + length a) out (omega arith), drop_at (take (at + length a) out) (b ++ drop (at + length a + length b) out) (at + length a) long)
    (simp (append_assoc, length-append, add_assoc))

module _ (o out : List ℕ) (at k n j m : ℕ) (same : length out ≡ length o) (inv : put out at (fixed j m) ≡ put o at (fixed k n)) where
  pub fours-next : {o1 : List ℕ} {p : ℕ} → 3 < j → j ≤ k → at + k ≤ length o → Wrote out (at + (j - 4)) (fixed 4 (m % 10000)) o1 p → put o1 at (fixed (j - 4) (m / 10000)) ≡ put o at (fixed k n)
  fours-next {o1} {p} h le room w =
      let c : m ≡ m / 10000 * 10 ^ 4 + m % 10000 = omega arith in
      let d : j ≡ (j - 4) + 4 = omega arith in
      let l : length (fixed (j - 4) (m / 10000)) ≡ j - 4 = fixed-length (j - 4) (m / 10000) in
      ap (λ (x : List ℕ). put x at (fixed (j - 4) (m / 10000))) w.left
      ∙ ap (λ (i : ℕ). put (put out (at + i) (fixed 4 (m % 10000))) at (fixed (j - 4) (m / 10000))) (sym l)
      ∙ put_front out at (fixed (j - 4) (m / 10000)) (fixed 4 (m % 10000)) (omega (arith, fixed-length 4 (m % 10000)))
      ∙ ap (put out at) (sym (join-fixed (j - 4) 4 (m / 10000) (m % 10000) (omega arith)) ∙ ap (fixed ((j - 4) + 4)) (sym c) ∙ ap (λ (i : ℕ). fixed i m) (sym d))
      ∙ inv

  pub fours-length : {o1 x : List ℕ} {p q : ℕ} → Wrote out q x o1 p → length o1 ≡ length o
  fours-length w = wrote-length w ∙ same

  pub fours-done : {o1 : List ℕ} {p : ℕ} → at + k ≤ length o → Wrote out at (fixed j m) o1 p → Wrote o at (fixed k n) o1 (at + k)
  fours-done room w = record { room = omega (arith, fixed-length k n); next = omega (arith, fixed-length k n); left = w.left ∙ inv }

pub ruleset fours = (fours-next, fours-length, fours-done)
