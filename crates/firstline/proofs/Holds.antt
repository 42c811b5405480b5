-- What is known of a line's answer: P of what it says, or Q of its refusal; and how that comes through the fields. Assumes nothing.
use mathlib.Core.Path.{◌≡◌, refl}
use mathlib.Core.List.{List}
use Prim.Native.Nat.{ℕ, ◌+◌, ◌≤◌, ◌<◌}
use native.Mathlib.Omega.{arith}
use lib.Dec.{ltb}
use lib.ListN.{length, take, drop, length-drop}
use lib.Seq.{drop-drop}
use borrow.Author.Tests.{ltb-false}
use Rattle.base.proofs.Cases.{either}
use Rattle.paper.specs.Read.{Field, value, fault}
use Rattle.paper.specs.Entries.{Said, got, no, on_field, place}

unfoldable pub Holds : {Z : Type 0} → (Z → Type 0) → (ℕ → ℕ → Type 0) → Said Z → Type 0
Holds P Q (got x) = P x
Holds P Q (no n at) = Q n at

module _ {Z : Type 0} (P : Z → Type 0) (Q : ℕ → ℕ → Type 0) where
  pub of-got : (x : Z) → P x → Holds P Q (got x)
  unfolding Holds
  of-got x p = p

  pub of-no : (n at : ℕ) → Q n at → Holds P Q (no n at)
  unfolding Holds
  of-no n at q = q

  -- of an answer that is known
  pub holds-got : (r : Said Z) → Holds P Q r → (x : Z) → r ≡ got x → P x
  unfolding Holds
  holds-got r h x q = rw q at h

  pub holds-no : (x : Said Z) → Holds P Q x → (n at : ℕ) → x ≡ no n at → Q n at
  unfolding Holds
  holds-no x h n at q = rw q at h

  -- the places that a field may be refused at are good
  module _ {A : Type 0} (at : ℕ) (q : (c : ℕ) → Q c at) where
    pub on-holds : (x : Field A) (k : A → Said Z) → ((v : A) → x ≡ value v → Holds P Q (k v)) → Holds P Q (on_field at x k)
    unfolding on_field Holds
    on-holds (value v) k h = h v refl
    on-holds (fault c) k h = q c

    pub place-holds : (n : ℕ) (read : List ℕ → Field A) (s : List ℕ) (k : A → ℕ → List ℕ → Said Z) → 0 < n
        → (at + n ≤ length s → (v : A) → read (take n (drop at s)) ≡ value v → Holds P Q (k v (at + n) (drop (at + n) s)))
        → Holds P Q (place n read at (drop at s) k)
    unfolding place
    place-holds n read s k l h =
        either (Holds P Q) (ltb (length (drop at s)) n) (λ e. of-no 4 at (q 4))
        (λ e.
        let f : n ≤ length (drop at s) = ltb-false _ _ e in
        on-holds (read (take n (drop at s))) _ (λ v g. rw (drop-drop n at s) (h (omega (arith, length-drop at s)) v g)))
