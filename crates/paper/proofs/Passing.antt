-- A map of what lines say that keeps refusals passes the ways to read a line: where it takes the rest of the reading k to j, it takes the
-- whole there. So it is with counting warnings. Assumes nothing.
use mathlib.Core.Path.{◌≡◌, refl, ap}
use mathlib.Core.Bool.{Bool, true, false}
use mathlib.Core.List.{List, [], ◌∷◌}
use Prim.Native.Nat.{ℕ, zero, suc, ◌+◌}
use native.Mathlib.Omega.{arith}
use lib.ListN.{length}
use Rattle.base.specs.Pick.{pick}
use Rattle.base.specs.Seek.{seek}
use Rattle.paper.specs.Read.{Field, value, fault}
use Rattle.paper.specs.Warnings.{Warning, Notice, notices}
use Rattle.paper.specs.Bytes.{space, field_of, rest_of}
use Rattle.paper.specs.Entries.{Entry, Places, Saying, saying, Said, Listed, got, no, said, counted, on_field, field, gap, line_end}

-- the map keeps refusals
pub record Keeps {A B : Type 0} (f : Said A → Said B) : Type 0 where
  pub refusal : (n off : ℕ) → f (no n off) ≡ no n off

module _ {A B : Type 0} (f : Said A → Said B) (keeps : Keeps f) where
  module _ {X : Type 0} where
    pub on-passes : (at : ℕ) (x : Field X) (k : X → Said A) (j : X → Said B) → ((v : X) → f (k v) ≡ j v) → f (on_field at x k) ≡ on_field at x j
    unfolding on_field
    on-passes at (value v) k j h = h v
    on-passes at (fault n) k j h = keeps.refusal n at

    pub field-passes : (read : List ℕ → Field X) (at : ℕ) (s : List ℕ) (k : X → ℕ → List ℕ → Said A) (j : X → ℕ → List ℕ → Said B)
        → ((v : X) (a : ℕ) (r : List ℕ) → f (k v a r) ≡ j v a r) → f (field read at s k) ≡ field read at s j
    unfolding field
    field-passes read at s k j h =
        on-passes at (read (field_of s)) (λ v. k v (at + seek space s) (rest_of s)) (λ v. j v (at + seek space s) (rest_of s))
        λ v. h v (at + seek space s) (rest_of s)

  pub gap-passes : (at : ℕ) (s : List ℕ) (k : ℕ → List ℕ → Said A) (j : ℕ → List ℕ → Said B) → ((a : ℕ) (r : List ℕ) → f (k a r) ≡ j a r)
      → f (gap at s k) ≡ gap at s j
  unfolding gap
  gap-passes at [] k j h = keeps.refusal 4 at
  gap-passes at (x ∷ s) k j h = h (at + 1) s

  pub end-passes : (at : ℕ) (s : List ℕ) (r : Said A) (q : Said B) → f r ≡ q → f (line_end at s r) ≡ line_end at s q
  unfolding line_end
  end-passes at [] r q h = h
  end-passes at (x ∷ s) r q h = keeps.refusal 4 at

  pub pick-passes : (t : Bool) (a b : Said A) (c d : Said B) → f a ≡ c → f b ≡ d → f (pick t a b) ≡ pick t c d
  unfolding pick
  pick-passes true a b c d p q = p
  pick-passes false a b c d p q = q

-- ---- counting warnings

pub counted-keeps : Keeps counted
unfolding counted
counted-keeps = record { refusal = λ n off. refl }

-- a field's warnings are as many as were asked for
pub notices-length : (w : Warning) (at n : ℕ) → length (notices w at n) ≡ n
unfolding notices
notices-length w at zero = refl
notices-length w at (suc n) = ap suc (notices-length w at n)

-- two lines that say the same say the same entry, warnings and places
pub same_parts : {W : Type 0} {e f : Entry} {w v : W} {p q : Places} → said e w p ≡ said f v q → (e ≡ f) × (w ≡ v) × (p ≡ q)
same_parts {W} {e} {f} {w} {v} {p} {q} h =
    let y : ◌≡◌ {A = Saying W} (saying e w p) (saying f v q) = cc in
    (ap (λ (x : Saying W). x.entry) y, ap (λ (x : Saying W). x.warnings) y, ap (λ (x : Saying W). x.places) y)

-- what a line says with its warnings counted it says with them listed
pub counted-said : (x : Listed) {e : Entry} {w : ℕ} {p : Places} → said e w p ≡ counted x → (v : List Notice) × (x ≡ said e v p)
unfolding counted
counted-said (got y) h = let (a, b, c) = same_parts h in (y.warnings, rw (a, c))
counted-said (no n off) h = absurd (let z : ◌≡◌ {A = ℕ} 0 1 = cc in omega arith)

-- .. and a refusal is one
pub counted-no : (x : Listed) (n off : ℕ) → no n off ≡ counted x → ◌≡◌ {A = Listed} (no n off) x
unfolding counted
counted-no (got y) n off h = absurd (let z : ◌≡◌ {A = ℕ} 0 1 = cc in omega arith)
counted-no (no m at) n off h = let a : n ≡ m = cc in let b : off ≡ at = cc in rw (a, b)
