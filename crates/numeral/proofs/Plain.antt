-- Spelled numbers are digits alone, and digits hold no other byte. Assumes nothing.
use Rattle.std.proofs.Common.{◌≡◌, ℕ, zero, suc, ◌+◌, ◌/◌, ◌%◌, ◌≤◌, true, false, List, [], ◌∷◌, sym, refl, arith, le-ltb, lt-ltb, le-leb}
use borrow.Author.Tests.{lt-leb}
use Rattle.base.specs.Pick.{pick}
use Rattle.base.specs.Seek.{all, Free}
use Rattle.base.proofs.Cases.{by-lt}
use Rattle.base.proofs.Seek.{never, all_cons, free_all}
use Rattle.paper.specs.Bytes.{is_digit}
use Rattle.paper.specs.Numerals.{dec_on, decimal, fixed_on, fixed}

-- a digit lies between 48 and 57, and what lies there is a digit
pub digit-range : (x : ℕ) → is_digit x ≡ true → (48 ≤ x) × (x ≤ 57)
unfolding is_digit pick
digit-range x h =
    by-lt x 48
    (λ lt. never (sym (simp (lt-ltb x 48 lt) at h)))
    (λ lo. by-lt 57 x (λ lt. never (sym (simp (le-ltb x 48 lo, lt-leb x 57 lt) at h))) (λ hi. (lo, hi)))

pub range-digit : (x : ℕ) → 48 ≤ x → x ≤ 57 → is_digit x ≡ true
unfolding is_digit pick
range-digit x lo hi = simp (le-ltb x 48 lo, le-leb x 57 hi)

-- a byte that is no digit stands nowhere among digits
pub digit-free : (q : ℕ) (s : List ℕ) → all is_digit s ≡ true → is_digit q ≡ false → Free (q ∷ []) s
digit-free q s h n = free_all is_digit q n s h

fixed-on : (k n : ℕ) (s : List ℕ) → all is_digit s ≡ true → all is_digit (fixed_on k n s) ≡ true
unfolding fixed_on
fixed-on zero n s h = h
fixed-on (suc k) n s h = fixed-on k (n / 10) ((48 + n % 10) ∷ s) (all_cons is_digit _ s (range-digit _ (omega arith) (omega arith)) h)

-- `fixed k n` is digits alone
pub fixed_plain : (k n : ℕ) → all is_digit (fixed k n) ≡ true
unfolding fixed all
fixed_plain k n = fixed-on k n [] refl

dec-on : (k n : ℕ) (s : List ℕ) → all is_digit s ≡ true → all is_digit (dec_on k n s) ≡ true
unfolding dec_on pick
dec-on zero n s h = h
dec-on (suc k) n s h =
    by-lt n 10
    (λ lt. simp (lt-ltb n 10 lt) (all_cons is_digit (48 + n) s (range-digit (48 + n) (omega arith) (omega arith)) h))
    (λ le. simp (le-ltb n 10 le) (dec-on k (n / 10) ((48 + n % 10) ∷ s) (all_cons is_digit _ s (range-digit _ (omega arith) (omega arith)) h)))

-- `decimal n` is digits alone
pub decimal-plain : (n : ℕ) → all is_digit (decimal n) ≡ true
unfolding decimal all
decimal-plain n = dec-on 20 n [] refl
