-- What holds of a day's register: of its set of numbers, of its layout, and of calls one after another. Request W-207. Assumes nothing.
use mathlib.Core.Path.{◌≡◌, refl, sym, ap, ◌∙◌, fun_ext}
use mathlib.Core.Bool.{Bool, true, false, true≢false}
use mathlib.Core.List.{List, [], ◌∷◌}
use Prim.Native.Nat.{ℕ, zero, suc, ◌+◌, ◌-◌, ◌≤◌, ◌<◌}
use native.Mathlib.Omega.{arith}
use lib.Dec.{eqb, ltb}
use lib.ListN.{length, drop}
use borrow.Author.Tests.{le-leb, lt-leb, eq-eqb, ne_eqb}
use Rattle.base.specs.Pick.{pick}
use Rattle.base.proofs.Cases.{by-test, by-eq, by-lt, pick_true, pick-false, pick_same}
use Rattle.paper.specs.Words.{words}
use Rattle.paper.specs.Days.{real_day}
use Rattle.paper.specs.FileLine.{member}
use Rattle.register.specs.Marks.{Marks, none, with, without, taken, free, lowest_from, lowest}
use Rattle.register.specs.Register.{Register, malformed, of, register_size, marks_in, register_of, laid_in, RegisterAnswer, answer, start_answer, start_after, is_given, give_in, given_bytes, give_answer, give_after}
use Rattle.register.proofs.Digits.{bit-behind}
use Rattle.register.proofs.Counted.{above-free}
use Rattle.register.proofs.Filled.{words_count}
use Rattle.register.proofs.Laid.{says, bytes_back}

-- ---- how many are free

one_of : (t : Bool) → pick t 1 0 + pick t 0 1 ≡ 1
unfolding pick
one_of true = refl
one_of false = refl

-- a number is marked or free
pub taken_free : (p : Marks) (m : ℕ) → taken p m + free p m ≡ m
unfolding taken free
taken_free p zero = refl
taken_free p (suc m) = omega (arith, taken_free p m, one_of (p m))

all-free : (m : ℕ) → free none m ≡ m
unfolding free none pick
all-free zero = refl
all-free (suc m) = omega (arith, all-free m)

-- all are free on a day's start
pub none_free : free none 1000 ≡ 1000
none_free = all-free 1000

-- ---- the lowest that is free

module _ (p : Marks) where
  -- one step of the search: t is whether n is marked, and l what is found behind it
  marked_step : (n k l : ℕ) (t : Bool) → p n ≡ t → n ≤ k → (n < k → k < l → p k ≡ true) → k < pick t l n → p k ≡ true
  unfolding pick
  marked_step n k l true e a rest b = by-eq n k (λ s. sym (ap p s) ∙ e) (λ d. rest (omega arith) b)
  marked_step n k l false e a rest b = absurd (omega arith)

  marked_from : (n c k : ℕ) → n ≤ k → k < lowest_from p n c → p k ≡ true
  unfolding lowest_from
  marked_from n zero k a b = absurd (omega arith)
  marked_from n (suc c) k a b = marked_step n k (lowest_from p (suc n) c) (p n) refl a (λ l. marked_from (suc n) c k (omega arith)) b

  free_step : (n e l : ℕ) (t : Bool) → p n ≡ t → (l < e → p l ≡ false) → pick t l n < e → p (pick t l n) ≡ false
  unfolding pick
  free_step n e l true q rest b = rest b
  free_step n e l false q rest b = q

  free-from : (n c : ℕ) → lowest_from p n c < n + c → p (lowest_from p n c) ≡ false
  unfolding lowest_from
  free-from n zero b = absurd (omega arith)
  free-from n (suc c) b = free_step n (n + suc c) (lowest_from p (suc n) c) (p n) refl (λ l. free-from (suc n) c (omega arith)) b

  most_step : (n e l : ℕ) (t : Bool) → n ≤ e → l ≤ e → pick t l n ≤ e
  unfolding pick
  most_step n e l true a b = b
  most_step n e l false a b = a

  most-from : (n c : ℕ) → lowest_from p n c ≤ n + c
  unfolding lowest_from
  most-from n zero = omega arith
  most-from n (suc c) = most_step n (n + suc c) (lowest_from p (suc n) c) (p n) (omega arith) (omega (arith, most-from (suc n) c))

  module _ (m : ℕ) where
    -- all below it are marked
    pub lowest-marked : (k : ℕ) → k < lowest p m → p k ≡ true
    lowest-marked k l = marked_from 0 m k (omega arith) l

    -- it is free, unless none is
    pub lowest-free : lowest p m < m → p (lowest p m) ≡ false
    lowest-free l = free-from 0 m (omega arith)

    pub lowest-most : lowest p m ≤ m
    lowest-most = omega (arith, most-from 0 m)

    -- and no free number is lower
    pub lowest-least : (k : ℕ) → k < m → p k ≡ false → lowest p m ≤ k
    lowest-least k l e = by-lt k (lowest p m) (λ b. absurd (true≢false (sym (lowest-marked k b) ∙ e))) (λ b. b)

pub none-lowest : lowest none 1000 ≡ 0
unfolding lowest_from none pick
none-lowest = refl

-- ---- a number marked, and one given back

-- given back, n is free
without-same : (n : ℕ) (p : Marks) → without n p n ≡ false
unfolding without
without-same n p = pick_true _ _ (eq-eqb n n refl)

-- and no other number changes
pub give-other : (n k : ℕ) (p : Marks) → (k ≡ n → ⊥) → without n p k ≡ p k
unfolding without
give-other n k p d = pick-false _ _ (ne_eqb k n d)

with-same : (n : ℕ) (p : Marks) → with (n ∷ []) p n ≡ true
unfolding with member
with-same n p = pick_true _ _ (pick_true _ _ (eq-eqb n n refl))

with-other : (n k : ℕ) (p : Marks) → (k ≡ n → ⊥) → with (n ∷ []) p k ≡ p k
unfolding with member
with-other n k p d = pick-false _ _ (pick-false _ _ (ne_eqb k n d))

-- a free number marked and given back
pub give-mark : (n : ℕ) (p : Marks) → p n ≡ false → without n (with (n ∷ []) p) ≡ p
give-mark n p e = fun_ext (λ (k : ℕ). by-eq k n
    (λ s. ap (without n (with (n ∷ []) p)) s ∙ without-same n (with (n ∷ []) p) ∙ sym e ∙ sym (ap p s))
    (λ d. give-other n k (with (n ∷ []) p) d ∙ with-other n k p d))

-- a marked one given back and marked
pub mark-give : (n : ℕ) (p : Marks) → p n ≡ true → with (n ∷ []) (without n p) ≡ p
mark-give n p e = fun_ext (λ (k : ℕ). by-eq k n
    (λ s. ap (with (n ∷ []) (without n p)) s ∙ with-same n (without n p) ∙ sym e ∙ sym (ap p s))
    (λ d. with-other n k (without n p) d ∙ give-other n k p d))

-- the next number to be used is at most the one given back
pub given-lowest : (n m : ℕ) (p : Marks) → n < m → lowest (without n p) m ≤ n
given-lowest n m p l = lowest-least (without n p) m n l (without-same n p)

-- ---- the layout

-- what was laid into lent bytes is what they say
pub laid-back : (lent : List ℕ) (d : ℕ) (p : Marks) → register_size ≤ length lent → real_day d ≡ true → ((n : ℕ) → 1000 ≤ n → p n ≡ false)
    → register_of (laid_in lent d p) ≡ of d p
unfolding laid_in
laid-back lent d p long real free = bytes_back (drop register_size lent) d p real free

-- lent bytes say a real day, and no number above 999
pub laid-free : (lent : List ℕ) (d : ℕ) (p : Marks) → register_of lent ≡ of d p → (real_day d ≡ true) × ((n : ℕ) → 1000 ≤ n → p n ≡ false)
unfolding marks_in
laid-free lent d p e =
    let s = says lent d p e in (
      s.real,
      λ n l. by-lt n 1024
          (λ b. let a : n ≡ 1000 + (n - 1000) = omega arith in ap p a ∙ above-free p s.above (n - 1000) (omega arith))
          (λ b. ap (λ (q : Marks). q n) s.marks ∙ bit-behind (words 16 (drop 8 lent)) n (omega (arith, words_count 16 (drop 8 lent)))),
    )

-- ---- calls one after another

-- a day that was started has no number marked
pub started : (lent : List ℕ) (d : ℕ) → real_day d ≡ true → register_size ≤ length lent → register_of (start_after d lent) ≡ of d none
unfolding start_after none
started lent d real long =
    let after : start_after d lent ≡ laid_in lent d none = pick_true _ _ real ∙ pick_true _ _ (le-leb register_size (length lent) long) in
    ap register_of after ∙ laid-back lent d none long real (λ n l. refl)

module _ (lent : List ℕ) (d : ℕ) (p : Marks) (n : ℕ) (said : register_of lent ≡ of d p) (may : is_given p n ≡ true) where
  -- a number that was given back is marked no more
  pub given : register_of (give_after lent n) ≡ of d (without n p)
  unfolding give_after given_bytes without
  given =
      let after : give_after lent n ≡ laid_in lent d (without n p) = rw said (pick_true _ _ may) in
      let f = laid-free lent d p said in
      ap register_of after
      ∙ laid-back lent d (without n p) (says lent d p said).long f.0
      (λ k l. ap (pick (eqb k n) false) (f.1 k l) ∙ pick_same (eqb k n) false)

  -- and is not given back once more
  pub given-again : give_answer (give_after lent n) n ≡ answer 24 0
  unfolding give_answer give_in is_given
  given-again =
      let not : is_given (without n p) n ≡ false = ap (λ (t : Bool). pick (ltb n 1000) t false) (without-same n p) ∙ pick_same (ltb n 1000) false in
      ap (λ (r : Register). give_in r n) given ∙ pick-false _ _ not

-- ---- a refusal changes nothing

-- the number of an answer
abbrev number_of : RegisterAnswer → ℕ
number_of a = a.number

pub start-kept : (lent : List ℕ) (d : ℕ) → ((start_answer d lent).number ≡ 0 → ⊥) → start_after d lent ≡ lent
unfolding start_answer start_after
start-kept lent d refusal =
    by-test (real_day d)
    (λ e. pick_true _ _ e ∙ by-lt (length lent) register_size
    (λ l. pick-false _ _ (lt-leb register_size (length lent) l))
    (λ l. absurd (refusal (ap number_of (pick_true _ _ e ∙ pick_true _ _ (le-leb register_size (length lent) l))))))
    (λ e. pick-false _ _ e)

kept-in : (lent : List ℕ) (r : Register) (n : ℕ) → ((give_in r n).number ≡ 0 → ⊥) → given_bytes lent r n ≡ lent
unfolding give_in given_bytes
kept-in lent malformed n refusal = refl
kept-in lent (of d p) n refusal = by-test (is_given p n) (λ e. absurd (refusal (ap number_of (pick_true _ _ e)))) (λ e. pick-false _ _ e)

pub give_kept : (lent : List ℕ) (n : ℕ) → ((give_answer lent n).number ≡ 0 → ⊥) → give_after lent n ≡ lent
unfolding give_answer give_after
give_kept lent n refusal = kept-in lent (register_of lent) n refusal
