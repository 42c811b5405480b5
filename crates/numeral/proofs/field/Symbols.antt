-- Digits that are tested eight at once, and passed up to ten. Assumes nothing.
use Rattle.std.proofs.Common.{◌≡◌, ℕ, zero, suc, ◌+◌, ◌-◌, ◌<◌, ◌≤◌, Bool, true, false, List, [], ◌∷◌, ◌++◌, length, get_or, take, drop, sym, refl, ap, ◌∙◌, add-one, arith, length-drop, get_or-drop, drop-cons, take-suc, drop-drop}
use Rattle.base.specs.Pick.{pick}
use Rattle.base.specs.Seek.{all}
use Rattle.base.proofs.Cases.{by-test, pick_same}
use Rattle.base.proofs.Seek.{never, all_head, all_tail}
use Rattle.paper.specs.Bytes.{is_digit, field_of, null}
use Rattle.paper.specs.Numerals.{digits}
use Rattle.numeral.proofs.Sound.{digits-reads}
use Rattle.numeral.specs.field.At.{found, missed, field_at}
use Rattle.numeral.specs.field.Digits.{front, run, Worth}
use Rattle.numeral.proofs.field.Front.{run-digits, run-most}
use Rattle.numeral.proofs.field.Turns.{is-digit}
use Rattle.numeral.proofs.field.Number.{run_inside, number-value, number_short, number-long}
use Rattle.numeral.specs.field.Kept.{keeping, nothing}

-- ---- eight at once: the answer so far is that of the first j

all-last : (p : ℕ → Bool) (s : List ℕ) (x : ℕ) → all p (s ++ (x ∷ [])) ≡ pick (p x) (all p s) false
unfolding all pick
all-last p [] x = refl
all-last p (y ∷ s) x = by-test (p y) (λ e. simp e (all-last p s x)) (λ e. simp e (sym (pick_same (p x) false)))

module _ (s : List ℕ) (at j : ℕ) (t u : Bool) (l : at + j < length s) (inv : t ≡ all is_digit (take j (drop at s))) (d : ℕ) (w : Worth (get_or s (at + j) 0) d) where
  more : all is_digit (take (j + 1) (drop at s)) ≡ pick (is_digit (get_or s (at + j) 0)) t false
  more =
      let g : get_or (drop at s) j 0 ≡ get_or s (at + j) 0 = get_or-drop at s j 0 in
      rw (add-one, take-suc (drop at s) j 0 (omega (arith, length-drop at s)), g, inv) (all-last is_digit (take j (drop at s)) (get_or s (at + j) 0))

  pub eight-other : 9 < d → u ≡ false → u ≡ all is_digit (take (j + 1) (drop at s))
  unfolding pick
  eight-other h f = f ∙ sym (more ∙ rw (w.other h))

  pub eight-digit : d ≤ 9 → u ≡ t → u ≡ all is_digit (take (j + 1) (drop at s))
  unfolding pick
  eight-digit h f = f ∙ sym (more ∙ rw (is-digit (get_or s (at + j) 0) d w h))

-- ---- one after the other: the first j are digits

-- a run behind k digits, of a text
front-over : (k m : ℕ) (s : List ℕ) → k ≤ length s → all is_digit (take k s) ≡ true → length (front (take (k + m) s)) ≡ k + length (front (take m (drop k s)))
unfolding front pick
front-over zero m s l h = let z : 0 + m ≡ m = omega arith in rw z (omega arith)
front-over (suc k) m [] l h = absurd (omega arith)
front-over (suc k) m (x ∷ s) l h =
    let z : suc k + m ≡ suc (k + m) = omega arith in
    rw z (simp (all_head is_digit x (take k s) h) (omega (arith, front-over k m s (omega arith) (all_tail is_digit x (take k s) h))))

-- not all of so many are digits, so all of the run lies before the last of them
front-few : (k m : ℕ) (s : List ℕ) → all is_digit (take (suc k) s) ≡ false → length (front (take (suc k + m) s)) ≡ length (front (take k s))
unfolding front pick all
front-few k m [] h = never h
front-few zero m (x ∷ s) h =
    let z : 1 + m ≡ suc m = omega arith in
    rw z (by-test (is_digit x) (λ e. never (simp e at h)) (λ e. simp e))
front-few (suc k) m (x ∷ s) h =
    let z : suc (suc k) + m ≡ suc (suc k + m) = omega arith in
    rw z (by-test (is_digit x) (λ e. simp e (ap suc (front-few k m s (simp e at h)))) (λ e. simp e))

-- the loop: what is left of `most` from j on
module _ (s : List ℕ) (at most j : ℕ) (l : j < most) (w : at + most ≤ length s) (inv : length (run most (drop at s)) ≡ j + length (front (take (most - j) (drop (at + j) s)))) where
  head-is : front (take (most - j) (drop (at + j) s)) ≡ pick (is_digit (get_or s (at + j) 0)) (get_or s (at + j) 0 ∷ front (take (most - (j + 1)) (drop (at + (j + 1)) s))) []
  unfolding front
  head-is =
      let k : at + j < length s = omega arith in
      let z : most - j ≡ suc (most - (j + 1)) = omega arith in
      let y : at + (j + 1) ≡ suc (at + j) = omega arith in
      rw (z, y, drop-cons s (at + j) 0 k)

  module _ (d : ℕ) (g : Worth (get_or s (at + j) 0) d) where
    pub few-other : 9 < d → at + j ≡ at + length (run most (drop at s))
    unfolding pick
    few-other h =
        let e : front (take (most - j) (drop (at + j) s)) ≡ [] = head-is ∙ rw (g.other h) in
        let z : length (front (take (most - j) (drop (at + j) s))) ≡ 0 = rw e in
        omega arith

    pub few-next : d ≤ 9 → length (run most (drop at s)) ≡ j + 1 + length (front (take (most - (j + 1)) (drop (at + (j + 1)) s)))
    unfolding pick
    few-next h =
        let e : front (take (most - j) (drop (at + j) s)) ≡ get_or s (at + j) 0 ∷ front (take (most - (j + 1)) (drop (at + (j + 1)) s)) = head-is ∙ rw (is-digit (get_or s (at + j) 0) d g h) in
        let z : length (front (take (most - j) (drop (at + j) s))) ≡ suc (length (front (take (most - (j + 1)) (drop (at + (j + 1)) s)))) = rw e in
        omega arith

pub few-end : (s : List ℕ) (at most j : ℕ) → most ≤ j → j ≤ most → length (run most (drop at s)) ≡ j + length (front (take (most - j) (drop (at + j) s))) → at + most ≡ at + length (run most (drop at s))
unfolding front
few-end s at most j l m inv =
    let z : most - j ≡ 0 = omega arith in
    let e : length (front (take (most - j) (drop (at + j) s))) ≡ 0 = rw z refl in
    omega arith

pub ruleset fews = (few-other, few-next, few-end)

-- ---- ten at most

module _ (s : List ℕ) (at e : ℕ) (l : at ≤ length s) (m : 10 ≤ length s - at) (t : Bool) (k : t ≡ all is_digit (take 8 (drop at s))) where
  pub ten-eight : t ≡ true → e ≡ at + 8 + length (run 2 (drop (at + 8) s)) → e ≡ at + length (run 10 (drop at s))
  ten-eight y h =
      let o = front-over 8 2 (drop at s) (omega (arith, length-drop at s)) (sym k ∙ y) in
      let d = rw (drop-drop 8 at s) at o in
      omega arith

  pub ten-few : t ≡ false → e ≡ at + length (run 7 (drop at s)) → e ≡ at + length (run 10 (drop at s))
  ten-few y h = let o = front-few 7 2 (drop at s) (sym k ∙ y) in omega arith

pub ruleset tens = (ten-eight, ten-few)

-- ---- a symbol: its digits end at e, and t is whether the field ends there

pub symbol-inside : (s : List ℕ) (at e : ℕ) → e ≡ at + length (run 10 (drop at s)) → at ≤ length s → e ≤ length s
symbol-inside s at e h l = run_inside s at 10 e 0 h l

module _ (s : List ℕ) (at least e : ℕ) (h : e ≡ at + length (run 10 (drop at s))) (t : Bool) (k : t ≡ null (field_of (drop e s))) where
  module _ (y : t ≡ true) where
    pub symbol-passed : least ≤ e - at → found tt e ≡ keeping nothing (field_at (digits least 10) s at)
    unfolding keeping
    symbol-passed l =
        let v = digits-reads 0 10 (run 10 (drop at s)) (run-digits 10 (drop at s)) (omega arith) (run-most 10 (drop at s)) in
        ap (keeping nothing) (number-value s at least 10 e v.0 h t k y v.1 l)

    pub symbol-short : e - at < least → missed 4 ≡ keeping nothing (field_at (digits least 10) s at)
    unfolding keeping
    symbol-short l = ap (keeping nothing) (number_short s at least 10 e 0 h t k y l)

  pub symbol-other : t ≡ false → missed 4 ≡ keeping nothing (field_at (digits least 10) s at)
  unfolding keeping
  symbol-other y = ap (keeping nothing) (number-long s at least 10 e 0 h t k y)

pub ruleset symbols = (symbol-inside, symbol-passed, symbol-short, symbol-other)
