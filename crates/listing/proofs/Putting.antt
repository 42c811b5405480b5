-- Findings put one after another: a whole entry, and lists of findings by a test. Assumes nothing.
use mathlib.Core.Path.{◌≡◌, refl, sym, ◌∙◌}
use mathlib.Core.Bool.{Bool, true, false}
use mathlib.Core.List.{List, [], ◌∷◌, ◌++◌, append-nil, append_assoc}
use Prim.Native.Nat.{ℕ, ◌<◌, ◌≤◌}
use native.Mathlib.Omega.{arith}
use lib.Dec.{ltb}
use lib.ListN.{length}
use lib.Seq.{drop-length}
use borrow.Author.Tests.{lt-ltb, le-ltb}
use Rattle.base.specs.Pick.{pick}
use Rattle.base.specs.Put.{Wrote}
use Rattle.base.proofs.Cases.{pick_true, pick-false}
use Rattle.base.proofs.Put.{put-seam}
use Rattle.paper.specs.Words.{words_bytes}
use Rattle.out.proofs.word.Laws.{words-length}
use Rattle.numeral.specs.counted.Counted.{Counted}
use Rattle.numeral.proofs.counted.Laws.{counted-nothing, ◌counted-then◌}
use Rattle.why.specs.declared.Finding.{Finding}
use Rattle.listing.specs.declared.Telling.{Telling}
use Rattle.listing.specs.Listed.{entry, spelled, listed}

-- ---- eight words fill 64 bytes

whole : {o o1 x : List ℕ} {r : ℕ} → length o ≡ length x → Wrote o 0 x o1 r → o1 ≡ x
whole {o} {o1} {x} e w = w.left ∙ put-seam [] o 0 x refl ∙ rw (← e, drop-length o) (append-nil x)

pub entry_whole : (x : Finding) {o o1 : List ℕ} {r : ℕ} → length o ≡ 64
    → Wrote o 0 (words_bytes (x.number ∷ x.cause ∷ x.line ∷ x.byte ∷ x.length ∷ x.field ∷ x.least ∷ x.most ∷ [])) o1 r → o1 ≡ entry x
unfolding entry
entry_whole x l w =
    whole (omega (arith, words-length (x.number ∷ x.cause ∷ x.line ∷ x.byte ∷ x.length ∷ x.field ∷ x.least ∷ x.most ∷ []))) w

pub entry-put : (x : Finding) (row : List ℕ) {o o1 : List ℕ} {at r : ℕ} → row ≡ entry x → Counted o at row o1 r → Counted o at (entry x) o1 r
entry-put x row e w = rw (← e) w

-- ---- lists of findings

module _ (t : Telling) (f : List ℕ) where
  pub listed-append : (xs ys : List Finding) → listed t f (xs ++ ys) ≡ listed t f xs ++ listed t f ys
  unfolding listed
  listed-append [] ys = refl
  listed-append (x ∷ xs) ys = rw (listed-append xs ys) (sym (append_assoc (spelled t f x) (listed t f xs) (listed t f ys)))

  pub listed-one : (x : Finding) → listed t f (x ∷ []) ≡ spelled t f x
  unfolding listed
  listed-one x = append-nil (spelled t f x)

module _ (t : Telling) (f : List ℕ) {o : List ℕ} {at : ℕ} where
  -- ---- counted: none, one, and one list after another

  pub none-put : Counted o at (listed t f []) o at
  unfolding listed
  none-put = counted-nothing

  module _ {o1 : List ℕ} {r : ℕ} where
    pub one-put : (x : Finding) → Counted o at (spelled t f x) o1 r → Counted o at (listed t f (x ∷ [])) o1 r
    one-put x w = rw (listed-one t f x) w

    pub both-put : (xs ys : List Finding) {o2 : List ℕ} {q : ℕ} → Counted o at (listed t f xs) o1 r → Counted o1 r (listed t f ys) o2 q → Counted o at (listed t f (xs ++ ys)) o2 q
    both-put xs ys v w = rw (listed-append t f xs ys) (v counted-then w)

    -- ---- by a test

    module _ (a b : List Finding) where
      pub lt-put : (m n : ℕ) → m < n → Counted o at (listed t f a) o1 r → Counted o at (listed t f (pick (ltb m n) a b)) o1 r
      lt-put m n h w = rw (pick_true a b (lt-ltb m n h)) w

      pub ge-put : (m n : ℕ) → n ≤ m → Counted o at (listed t f b) o1 r → Counted o at (listed t f (pick (ltb m n) a b)) o1 r
      ge-put m n h w = rw (pick-false a b (le-ltb m n h)) w

      pub yes-put : (u : Bool) → u ≡ true → Counted o at (listed t f a) o1 r → Counted o at (listed t f (pick u a b)) o1 r
      yes-put u e w = rw (pick_true a b e) w

      pub not-put : (u : Bool) → u ≡ false → Counted o at (listed t f b) o1 r → Counted o at (listed t f (pick u a b)) o1 r
      not-put u e w = rw (pick-false a b e) w

pub ruleset putting = (none-put, one-put, both-put, lt-put, ge-put, yes-put, not-put)
