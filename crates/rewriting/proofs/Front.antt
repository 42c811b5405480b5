-- What stands at the front of an output behind a writer. Assumes nothing.
use mathlib.Core.Path.{◌≡◌, sym, ap, ◌∙◌}
use mathlib.Core.List.{List, ◌++◌}
use Prim.Native.Nat.{ℕ, ◌+◌, ◌≤◌}
use native.Mathlib.Omega.{arith}
use lib.ListN.{length, drop}
use borrow.Author.Tests.{le-ltb}
use Rattle.base.specs.Put.{put, Wrote}
use Rattle.base.proofs.Cases.{pick-false}
use Rattle.paper.specs.Writing.{Draft, drafted, WriteAnswer, written_in, output_after}
use Rattle.write.specs.declared.AboWritten.{AboWritten}
use Rattle.write.specs.Told.{told}

-- s in front of what stood behind it
front-put : (o s : List ℕ) → s ++ drop (length s) o ≡ put o 0 s
unfolding put
front-put o s = let z : length s ≡ 0 + length s = omega arith in ap (λ (n : ℕ). s ++ drop n o) z

-- Two writers of the same bytes leave the same output and give the same answer: so the contract of `rewrite` determines both.
pub determined : (o s o' o'' : List ℕ) (r r' : ℕ) → Wrote o 0 s o' r → Wrote o 0 s o'' r' → (r ≡ r') × (o' ≡ o'')
determined o s o' o'' r r' w v = (w.next ∙ sym v.next, w.left ∙ sym v.left)

-- w is the answer of writing, with the output it left: a draft that has room was written at the front
pub draft-wrote : (w : AboWritten) (o o' : List ℕ) (d : Draft) → told w ≡ written_in (length o) d → o' ≡ output_after o d
    → (s : List ℕ) → d ≡ drafted s → length s ≤ length o → Wrote o 0 s o' w.bytes
unfolding written_in output_after
draft-wrote w o o' d a l s e room =
    let f = le-ltb (length o) (length s) room in
    let n : w.bytes ≡ length s = ap (λ (x : WriteAnswer). x.bytes) (a ∙ ap (written_in (length o)) e ∙ pick-false _ _ f) in
    record { room = omega arith; next = omega arith; left = l ∙ ap (output_after o) e ∙ pick-false _ _ f ∙ front-put o s }

-- the same bytes under another name
pub wrote-same : (o s t o' : List ℕ) (r : ℕ) → s ≡ t → Wrote o 0 s o' r → Wrote o 0 t o' r
wrote-same o s t o' r e w = rw e at w
