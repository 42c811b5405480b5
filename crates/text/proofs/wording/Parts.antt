-- Laws of dividing, cutting, filling up and trimming parts, by their bytes. Assumes nothing.
use mathlib.Core.Path.{◌≡◌, refl, ap, ◌∙◌}
use mathlib.Core.List.{List, [], ◌∷◌, ◌++◌, map}
use Prim.Native.Nat.{ℕ, zero, suc, ◌+◌, ◌≤◌}
use native.Mathlib.Omega.{arith}
use lib.Dec.{eqb}
use lib.ListN.{length, take}
use lib.Seq.{take-append_seam, take-length}
use Rattle.base.specs.Pick.{pick}
use Rattle.base.specs.Seek.{all, starts, before, Free}
use Rattle.base.proofs.Cases.{by-test, either}
use Rattle.base.proofs.Seek.{never, free-tail, free-starts, seek-join}
use Rattle.paper.specs.Bytes.{bar, null}
use Rattle.paper.specs.Texts.{Piece, piece, others, divide, cut, pad, keep, trim, join_on}
use Rattle.text.specs.wording.Wording.{bytes_of}

-- of each part
pub data Every (P : List ℕ → Type 0) : List (List ℕ) → Type 0 where
  none : Every P []
  more : {p : List ℕ} {ps : List (List ℕ)} → P p → Every P ps → Every P (p ∷ ps)

-- n parts, the missing ones empty
unfoldable pub fill : ℕ → List (List ℕ) → List (List ℕ)
fill zero ps = []
fill (suc n) [] = [] ∷ fill n []
fill (suc n) (p ∷ ps) = p ∷ fill n ps

pub bytes-pad : (n : ℕ) (ps : List Piece) → bytes_of (pad n ps) ≡ fill n (bytes_of ps)
unfolding pad fill
bytes-pad zero ps = refl
bytes-pad (suc n) [] = ap (λ (l : List (List ℕ)). [] ∷ l) (bytes-pad n [])
bytes-pad (suc n) (p ∷ ps) = ap (λ (l : List (List ℕ)). p.bytes ∷ l) (bytes-pad n ps)

pub bytes_cut : (a : ℕ) (s : List ℕ) → (cut (piece a s)).bytes ≡ take 35 s
unfolding cut null pick
bytes_cut a [] = refl
bytes_cut a (x ∷ s) = refl

pub bytes-cuts : (ps : List Piece) → bytes_of (map cut ps) ≡ map (take 35) (bytes_of ps)
bytes-cuts [] = refl
bytes-cuts (p ∷ ps) = rw (bytes_cut p.place p.bytes, bytes-cuts ps)

pub every_map : (P Q : List ℕ → Type 0) (f : List ℕ → List ℕ) → ((p : List ℕ) → P p → Q (f p)) → {ps : List (List ℕ)} → Every P ps → Every Q (map f ps)
every_map P Q f g none = none
every_map P Q f g (more {p = p} h t) = more (g p h) (every_map P Q f g t)

pub every-fill : (P : List ℕ → Type 0) → P [] → (n : ℕ) {ps : List (List ℕ)} → Every P ps → Every P (fill n ps)
unfolding fill
every-fill P e zero none = none
every-fill P e zero (more h t) = none
every-fill P e (suc n) none = more e (every-fill P e n none)
every-fill P e (suc n) (more h t) = more h (every-fill P e n t)

every-keep : (P : List ℕ → Type 0) (p : List ℕ) {qs : List (List ℕ)} → P p → Every P qs → Every P (keep p qs)
unfolding keep
every-keep P [] h none = none
every-keep P [] h (more i t) = more h (more i t)
every-keep P (x ∷ p) h t = more h t

pub every-trim : (P : List ℕ → Type 0) {ps : List (List ℕ)} → Every P ps → Every P (trim ps)
unfolding trim
every-trim P none = none
every-trim P (more {p = p} h t) = every-keep P p h (every-trim P t)

-- each part is what stands before `|` in a rest of the message
pub every-divide : (P Q : List ℕ → Type 0) → ((x : ℕ) (s : List ℕ) → P (x ∷ s) → P s) → ((s : List ℕ) → P s → Q (before bar s))
    → (at : ℕ) (s : List ℕ) → P s → Every Q (bytes_of (divide at s))
unfolding others
every-divide P Q tail first at s h = more (first s h) (every-others at s h)
  where
    every-others : (at : ℕ) (s : List ℕ) → P s → Every Q (bytes_of (others at s))
    every-others at [] h = none
    every-others at (x ∷ s) h =
        either (λ (ps : List Piece). Every Q (bytes_of ps)) (eqb x 124)
        (λ e. more (first s (tail x s h)) (every-others (at + 1) s (tail x s h)))
        (λ e. every-others (at + 1) s (tail x s h))

pub length-fill : (n : ℕ) (ps : List (List ℕ)) → length (fill n ps) ≡ n
unfolding fill
length-fill zero ps = refl
length-fill (suc n) [] = ap suc (length-fill n [])
length-fill (suc n) (p ∷ ps) = ap suc (length-fill n ps)

keep-fill : (n : ℕ) (p : List ℕ) (qs : List (List ℕ)) → fill (suc n) (keep p qs) ≡ p ∷ fill n qs
unfolding keep fill
keep-fill n [] [] = refl
keep-fill n [] (q ∷ qs) = refl
keep-fill n (x ∷ p) qs = refl

-- what trimming takes off, filling up puts back
pub fill-trim : (ps : List (List ℕ)) → fill (length ps) (trim ps) ≡ ps
unfolding trim fill
fill-trim [] = refl
fill-trim (p ∷ ps) = keep-fill (length ps) p (trim ps) ∙ ap (λ (l : List (List ℕ)). p ∷ l) (fill-trim ps)

pub keep-le : (p : List ℕ) (qs : List (List ℕ)) → length (keep p qs) ≤ suc (length qs)
unfolding keep
keep-le [] [] = omega arith
keep-le [] (q ∷ qs) = omega arith
keep-le (x ∷ p) qs = omega arith

pub keep-none : (qs : List (List ℕ)) → length qs ≤ 0 → length (keep [] qs) ≤ 0
unfolding keep
keep-none [] h = omega arith
keep-none (q ∷ qs) h = absurd (omega arith)

-- parts that are free of `|`, divided by `|`, are divided back
pub others-free : (at : ℕ) (s : List ℕ) → Free bar s → others at s ≡ []
unfolding others pick starts
others-free at [] h = refl
others-free at (x ∷ s) h =
    by-test (eqb x 124)
    (λ e. never (simp e at (free-starts bar x s h)))
    (λ e. simp e (others-free (at + 1) s (free-tail bar x s h)))

-- the bytes are the same wherever the message begins
pub others-anywhere : (a b : ℕ) (s : List ℕ) → bytes_of (others a s) ≡ bytes_of (others b s)
unfolding others pick
others-anywhere a b [] = refl
others-anywhere a b (x ∷ s) =
    by-test (eqb x 124)
    (λ e. simp e (ap (λ (l : List (List ℕ)). before bar s ∷ l) (others-anywhere (a + 1) (b + 1) s)))
    (λ e. simp e (others-anywhere (a + 1) (b + 1) s))

others-join : (at : ℕ) (s t : List ℕ) → Free bar s → bytes_of (others at (s ++ (124 ∷ t))) ≡ bytes_of (divide 0 t)
unfolding others pick starts
others-join at [] t h = ap (λ (l : List (List ℕ)). before bar t ∷ l) (others-anywhere (at + 1) 0 t)
others-join at (x ∷ s) t h =
    by-test (eqb x 124)
    (λ e. never (simp e at (free-starts bar x s h)))
    (λ e. simp e (others-join (at + 1) s t (free-tail bar x s h)))

pub divide-join : (at : ℕ) (p : List ℕ) {qs : List (List ℕ)} → Free bar p → Every (Free bar) qs → bytes_of (divide at (join_on p qs)) ≡ p ∷ qs
unfolding join_on all
divide-join at p h none = rw (h, others-free at p h, take-length p)
divide-join at p h (more {p = q} {ps = qs} i t) =
    rw (seek-join 124 [] refl p (join_on q qs) h, others-join at p (join_on q qs) h, take-append_seam, divide-join 0 q i t)
