-- The digits that a text begins with, and a byte that is looked for behind them. Assumes nothing.
use Rattle.std.proofs.Common.{◌≡◌, ℕ, zero, suc, ◌+◌, ◌<◌, ◌≤◌, Bool, true, false, eqb, List, [], ◌∷◌, ◌++◌, length, get_or, take, drop, sym, refl, ap, ◌∙◌, add-one, arith, length-append, length-take, length-take-le, get_or-drop, get_or-take, take-take, eqb-true}
use lib.Seq.{take-length, get_or-append_seam}
use Rattle.base.specs.Pick.{pick}
use Rattle.base.specs.Seek.{all, starts, seek, before}
use Rattle.base.proofs.Cases.{by-test}
use Rattle.base.proofs.Lists.{drop-none}
use Rattle.base.proofs.Seek.{never, all_head, all_tail, seek-le}
use Rattle.paper.specs.Bytes.{is_digit, space, field_of, null}
use Rattle.numeral.specs.field.Digits.{front, run}

pub front-digits : (s : List ℕ) → all is_digit (front s) ≡ true
unfolding front all pick
front-digits [] = refl
front-digits (x ∷ s) = by-test (is_digit x) (λ e. simp e (front-digits s)) (λ e. simp e)

pub front-le : (s : List ℕ) → length (front s) ≤ length s
unfolding front pick
front-le [] = omega arith
front-le (x ∷ s) = by-test (is_digit x) (λ e. simp e (omega (arith, front-le s))) (λ e. simp e (omega arith))

front-is : (s : List ℕ) → front s ≡ take (length (front s)) s
unfolding front pick
front-is [] = refl
front-is (x ∷ s) = by-test (is_digit x) (λ e. simp e (ap (λ (l : List ℕ). x ∷ l) (front-is s))) (λ e. simp e)

front-stop : (s : List ℕ) → length (front s) < length s → is_digit (get_or s (length (front s)) 0) ≡ false
unfolding front pick
front-stop [] h = absurd (omega arith)
front-stop (x ∷ s) h = by-test (is_digit x) (λ e. simp e (front-stop s (omega (arith, simp e at h)))) (λ e. simp e)

-- a run of at most so many digits
module _ (most : ℕ) (s : List ℕ) where
  pub run-digits : all is_digit (run most s) ≡ true
  run-digits = front-digits (take most s)

  pub run-within : length (run most s) ≤ length s
  run-within = omega (arith, front-le (take most s), length-take most s)

  pub run-most : length (run most s) ≤ most
  run-most = omega (arith, front-le (take most s), length-take most s)

  pub run_is : run most s ≡ take (length (run most s)) s
  run_is = front-is (take most s) ∙ take-take (length (run most s)) most s run-most

  pub run-stop : length (run most s) < most → length (run most s) < length s → is_digit (get_or s (length (run most s)) 0) ≡ false
  run-stop h k =
      let l : length (run most s) < length (take most s) = omega (arith, length-take most s) in
      sym (ap is_digit (get_or-take most s (length (run most s)) 0 h)) ∙ front-stop (take most s) l

-- what holds of all bytes holds of each
pub all-at : (p : ℕ → Bool) (s : List ℕ) (i : ℕ) → all p s ≡ true → i < length s → p (get_or s i 0) ≡ true
all-at p [] i h l = absurd (omega arith)
all-at p (x ∷ s) zero h l = all_head p x s h
all-at p (x ∷ s) (suc i) h l = all-at p s i (all_tail p x s h) (omega arith)

-- a field that ends at once, or does not
pub field-ends : (s : List ℕ) → null (field_of s) ≡ true → seek space s ≡ 0
unfolding seek null pick
field-ends [] h = refl
field-ends (x ∷ s) h = by-test (starts space (x ∷ s)) (λ e. simp e) (λ e. never (sym (simp e at h)))

pub field-goes : (s : List ℕ) → null (field_of s) ≡ false → 0 < seek space s
unfolding seek null pick
field-goes [] h = never h
field-goes (x ∷ s) h = by-test (starts space (x ∷ s)) (λ e. never (simp e at h)) (λ e. simp e (omega arith))

pub field-long : (s : List ℕ) → length (field_of s) ≡ seek space s
field-long s = length-take-le (seek space s) s (seek-le space s)

-- digits before another byte are all that a run takes,
pub run-other : (most : ℕ) (d : List ℕ) (x : ℕ) (t : List ℕ) → all is_digit d ≡ true → is_digit x ≡ false → length d < most → run most (d ++ (x ∷ t)) ≡ d
unfolding front pick
run-other zero d x t a n l = absurd (omega arith)
run-other (suc m) [] x t a n l = simp n
run-other (suc m) (y ∷ d) x t a n l = simp (all_head is_digit y d a) (ap (λ (l : List ℕ). y ∷ l) (run-other m d x t (all_tail is_digit y d a) n (omega arith)))

-- and all that the text begins with
pub front-other : (d : List ℕ) (x : ℕ) (t : List ℕ) → all is_digit d ≡ true → is_digit x ≡ false → front (d ++ (x ∷ t)) ≡ d
front-other d x t a n = rw take-length at (run-other (length (d ++ (x ∷ t))) d x t a n (omega (arith, length-append d (x ∷ t))))

-- the byte x behind the bytes d at `at` of the line s
pub part-byte : (s : List ℕ) (at : ℕ) (d : List ℕ) (x : ℕ) (t : List ℕ) → drop at s ≡ d ++ (x ∷ t) → get_or s (at + length d) 0 ≡ x
part-byte s at d x t q = rw (← (get_or-drop at s (length d) 0), q) (get_or-append_seam d x t 0)

-- a byte that is found, with what stands before and behind it
pub split-byte : (b : ℕ) (s : List ℕ) → seek (b ∷ []) s < length s → s ≡ before (b ∷ []) s ++ (b ∷ drop (seek (b ∷ []) s + 1) s)
unfolding seek starts pick
split-byte b [] h = absurd (omega arith)
split-byte b (x ∷ s) h =
    by-test (eqb x b)
    (λ e. simp (e, add-one) (rw (drop-none s) (ap (λ (y : ℕ). y ∷ s) (eqb-true x b e))))
    (λ e. simp (e, add-one) (ap (λ (l : List ℕ). x ∷ l) (rw add-one at (split-byte b s (omega (arith, simp e at h))))))
