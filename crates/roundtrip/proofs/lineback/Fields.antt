-- A field that is spelled is read, and what follows it is read on. Assumes nothing.
use mathlib.Core.Path.{◌≡◌, refl, ◌∙◌}
use mathlib.Core.Bool.{true}
use mathlib.Core.List.{List, [], ◌∷◌, ◌++◌, append-nil}
use Prim.Native.Nat.{ℕ, ◌+◌}
use native.Mathlib.Omega.{arith}
use lib.Dec.{eqb}
use lib.ListN.{length, length-append}
use lib.Seq.{take-append_seam, drop-append_seam}
use borrow.Author.Tests.{le-ltb}
use Rattle.base.specs.Pick.{pick}
use Rattle.base.specs.Seek.{all, starts, seek, Free}
use Rattle.base.proofs.Cases.{by-test}
use Rattle.base.proofs.Seek.{never, free-starts, free-tail, seek-join}
use Rattle.paper.specs.Read.{Field, value}
use Rattle.paper.specs.Bytes.{is_digit, space, field_of}
use Rattle.paper.specs.Entries.{Entry, Places, Said, Saying, said, on_field, field, place}
use Rattle.paper.specs.GroupLine.{space_count}
use Rattle.numeral.proofs.Plain.{digit-free}

-- what may stand behind a field
pub data Stops : List ℕ → Type 0 where
  at-end : Stops []
  at_space : {r : List ℕ} → Stops (32 ∷ r)

pub seek-stops : (d r : List ℕ) → Free space d → Stops r → seek space (d ++ r) ≡ length d
unfolding all
seek-stops d _ h at-end = rw (append-nil d) h
seek-stops d _ h (at_space {r = r}) = seek-join 32 [] refl d r h

-- digits are a field
pub digits-field : (d : List ℕ) → all is_digit d ≡ true → Free space d
unfolding is_digit pick
digits-field d h = digit-free 32 d h refl

pub field_is : (d r : List ℕ) → Free space d → Stops r → field_of (d ++ r) ≡ d
field_is d r h s = rw (seek-stops d r h s) (take-append_seam d r)

module _ {A Z : Type 0} (read : List ℕ → Field A) (at : ℕ) (d : List ℕ) (v : A) (k : A → ℕ → List ℕ → Said Z) where
  -- a field, and what stops it
  pub field_back : (r : List ℕ) → Free space d → Stops r → read d ≡ value v → field read at (d ++ r) k ≡ k v (at + length d) r
  unfolding field on_field
  field_back r h s e = rw (seek-stops d r h s, take-append_seam d r, drop-append_seam d r, e)

  -- the last field of its line
  pub last-back : Free space d → read d ≡ value v → field read at d k ≡ k v (at + length d) []
  last-back h e = rw (append-nil d) at (field_back [] h at-end e)

  -- a field by place
  pub place-back : (n : ℕ) (r : List ℕ) → length d ≡ n → read d ≡ value v → place n read at (d ++ r) k ≡ k v (at + n) r
  unfolding place on_field pick
  place-back n r l e =
      rw (← l, le-ltb (length (d ++ r)) (length d) (omega (arith, length-append d r)), take-append_seam d r, drop-append_seam d r, e)

-- a field has no space
pub count-field : (d r : List ℕ) → Free space d → space_count (d ++ r) ≡ space_count r
unfolding space_count starts pick
count-field [] r h = refl
count-field (x ∷ d) r h =
    by-test (eqb x 32)
    (λ e. never (simp e at (free-starts space x d h)))
    (λ e. simp e (count-field d r (free-tail space x d h)))

-- a reading that is another is read as that is
pub onward : {W : Type 0} {r q : Said (Saying W)} {e : Entry} {w : W} → r ≡ q → (p : Places) × (q ≡ said e w p) → (p : Places) × (r ≡ said e w p)
onward f (p, g) = (p, f ∙ g)
