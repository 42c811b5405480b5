-- Laws of counting writers: of nothing, one after another, and where there is room. Assumes nothing.
use Rattle.std.proofs.Common.{◌≡◌, ℕ, ◌+◌, ◌^◌, ◌<◌, ◌≤◌, List, [], ◌++◌, length, sym, refl, ◌∙◌, add-zero, arith, length-append}
use Rattle.base.specs.Put.{Wrote}
use Rattle.base.proofs.Put.{put-nil, put-put}
use Rattle.numeral.specs.counted.Counted.{Counted}

pub counted-nothing : {o : List ℕ} {at : ℕ} → Counted o at [] o at
counted-nothing {o} {at} = record { long = refl; next = λ h. sym (add-zero at); left = λ h room. sym (put-nil o at) }

infixr 30 ◌counted-then◌
-- one counting writer after another
pub ◌counted-then◌ : {o o1 o2 x y : List ℕ} {at p q : ℕ} → Counted o at x o1 p → Counted o1 p y o2 q → Counted o at (x ++ y) o2 q
◌counted-then◌ {o} {o1} {o2} {x} {y} {at} {p} {q} v w =
    record {
      long = w.long ∙ v.long;
      next = λ h. omega (arith, both, v.next (first h), w.next (second h));
      left = λ h room.
          w.left (second h) (omega (arith, both, v.long, v.next (first h)))
          ∙ rw (v.left (first h) (omega (arith, both)), v.next (first h)) (put-put o at x y (omega (arith, both)));
    }
  where
    both : length (x ++ y) ≡ length x + length y
    both = length-append x y

    first : at + length (x ++ y) < 2 ^ 64 → at + length x < 2 ^ 64
    first h = omega (arith, both)

    second : at + length (x ++ y) < 2 ^ 64 → p + length y < 2 ^ 64
    second h = omega (arith, both, v.next (first h))

-- where there is room, it wrote
pub counted-wrote : {o o1 x : List ℕ} {at r : ℕ} → Counted o at x o1 r → at + length x < 2 ^ 64 → at + length x ≤ length o → Wrote o at x o1 r
counted-wrote w h room = record { room = room; next = w.next h; left = w.left h room }
