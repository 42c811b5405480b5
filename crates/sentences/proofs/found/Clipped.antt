-- A part of a file, as far as the file has it. Assumes nothing.
use mathlib.Core.Path.{◌≡◌, sym, ap, ◌∙◌}
use mathlib.Core.List.{List}
use Prim.Native.Nat.{ℕ, ◌+◌, ◌-◌, ◌≤◌, ◌<◌}
use native.Mathlib.Omega.{arith}
use lib.Dec.{ltb}
use lib.ListN.{length, take, drop, length-drop, drop_of_length-le}
use lib.Seq.{take_all}
use borrow.Author.Tests.{lt-ltb, le-ltb}
use Rattle.base.specs.Pick.{pick}
use Rattle.base.proofs.Cases.{by-lt, pick_true, pick-false}
use Rattle.numeral.specs.counted.Counted.{Counted}
use Rattle.sentences.specs.Quoted.{quoted_or}

-- r is n, but at most m
module _ (n m r : ℕ) (e : r ≡ pick (ltb n m) n m) where
  inside : n < m → r ≡ n
  inside h = e ∙ pick_true n m (lt-ltb n m h)

  outside : m ≤ n → r ≡ m
  outside h = e ∙ pick-false n m (le-ltb n m h)

-- so much is left out, and so much is taken
module _ (s : List ℕ) (n r : ℕ) (e : r ≡ pick (ltb n (length s)) n (length s)) where
  left_out : drop r s ≡ drop n s
  left_out =
      by-lt n (length s)
      (λ h. rw (inside n (length s) r e h))
      (λ h. drop_of_length-le s {i = r} (omega (arith, outside n (length s) r e h)) ∙ sym (drop_of_length-le s {i = n} h))

  taken : take r s ≡ take n s
  taken =
      by-lt n (length s)
      (λ h. rw (inside n (length s) r e h))
      (λ h. take_all r s (omega (arith, outside n (length s) r e h)) ∙ sym (take_all n s h))

module _ (f : List ℕ) (byte len from more : ℕ) where
  -- the part from `from` to `from + more` is what was asked for
  part-is : from ≡ pick (ltb byte (length f)) byte (length f) → more ≡ pick (ltb len (length f - from)) len (length f - from)
      → take (from + more - from) (drop from f) ≡ take len (drop byte f)
  part-is e g =
      let back : from + more - from ≡ more = omega arith in
      rw back
      (taken (drop from f) len more (rw (length-drop from f) g)
      ∙ ap (take len) (left_out f byte from e))

  pub part-counted : from ≡ pick (ltb byte (length f)) byte (length f) → more ≡ pick (ltb len (length f - from)) len (length f - from)
      → {o o1 : List ℕ} {at r : ℕ} → Counted o at (quoted_or (take (from + more - from) (drop from f))) o1 r
      → Counted o at (quoted_or (take len (drop byte f))) o1 r
  part-counted e g w = rw (part-is e g) at w
