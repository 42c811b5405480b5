-- The layout: a word is the sum of its bits, the words of a set are got back from its bits, and a register from its bytes. Assumes nothing.
use mathlib.Core.Path.{◌≡◌, refl, sym, ap, ap₂, ◌∙◌, fun_ext}
use mathlib.Core.Bool.{Bool, true, false}
use mathlib.Core.List.{List, [], ◌∷◌, ◌++◌}
use Prim.Native.Nat.{ℕ, zero, suc, ◌+◌, ◌*◌, ◌/◌, ◌%◌, ◌^◌, ◌≤◌, ◌<◌}
use native.Mathlib.Nat.{add-zero, pow-suc}
use native.Mathlib.Omega.{arith}
use lib.Dec.{eqb}
use lib.ListN.{length, get_or, drop, length-append}
use mir.Syntax.{w64}
use mir.Val.{Fits}
use borrow.Author.Tests.{eq-eqb, ne_eqb, leb-true, le-leb}
use Rattle.base.specs.Pick.{pick}
use Rattle.base.specs.Put.{put, Wrote}
use Rattle.base.proofs.Put.{◌then◌}
use Rattle.base.proofs.Cases.{by-test, by-lt, pick_true, pick-false, pick-both, both-pick}
use Rattle.paper.specs.Words.{word_bytes, words, words_bytes}
use Rattle.paper.specs.Days.{real_day}
use Rattle.out.specs.word.Sizes.{Small}
use Rattle.out.proofs.put.Room.{wrote-length}
use Rattle.out.proofs.word.Laws.{word-length, words-length, words_back}
use Rattle.calendar.proofs.Real.{parts}
use Rattle.fileline.specs.seen.Bits.{bit}
use Rattle.fileline.proofs.seen.Laws.{at}
use Rattle.register.specs.Marks.{Marks}
use Rattle.register.specs.Register.{malformed, of, register_size, date_in, marks_in, none_above, is_laid, register_of, word_from, words_from, register_bytes, laid_in}
use Rattle.register.proofs.Digits.{on, at-half, at_zero, low_digit, bit_in, bit-behind}
use Rattle.register.proofs.Counted.{taken_none}

next_place : (n j : ℕ) → suc n + j ≡ n + suc j
next_place n j = omega arith

-- ---- words from their bits

-- a word is the sum of its bits
word_sum : (p : Marks) (n k w : ℕ) → w < 2 ^ k → ((j : ℕ) → j < k → p (n + j) ≡ on w j) → word_from p n k ≡ w
unfolding word_from
word_sum p n zero w l same = omega arith
word_sum p n (suc k) w l same =
    let two : 2 ^ suc k ≡ 2 ^ k * 2 = pow-suc 2 k in
    let first : pick (p n) 1 0 ≡ w % 2 = ap (λ (t : Bool). pick {A = ℕ} t 1 0) (ap p (sym (add-zero n)) ∙ same 0 (omega arith)) ∙ low_digit w in
    let rest : word_from p (suc n) k ≡ w / 2 =
    word_sum p (suc n) k (w / 2) (omega arith) (λ j m. ap p (next_place n j) ∙ same (suc j) (omega arith) ∙ ap (λ (x : ℕ). eqb x 1) (at-half w j)) in
    omega arith

words-sum : (p : Marks) (n m : ℕ) (ws : List ℕ) → length ws ≡ m → ((i : ℕ) → get_or ws i 0 < 2 ^ 64)
    → ((i j : ℕ) → j < 64 → p (n + 64 * i + j) ≡ on (get_or ws i 0) j) → words_from p n m ≡ ws
unfolding words_from
words-sum p n zero [] long small same = refl
words-sum p n zero (w ∷ ws) long small same = absurd (omega arith)
words-sum p n (suc m) [] long small same = absurd (omega arith)
words-sum p n (suc m) (w ∷ ws) long small same =
    ap₂ (λ (x : ℕ) (l : List ℕ). x ∷ l)
    (word_sum p n 64 w (small 0) (λ j l. let e : n + j ≡ n + 64 * 0 + j = omega arith in ap p e ∙ same 0 j l))
    (words-sum p (n + 64) m ws (omega arith) (λ i. small (suc i))
    (λ i j l. let e : n + 64 + 64 * i + j ≡ n + 64 * suc i + j = omega arith in ap p e ∙ same (suc i) j l))

-- sixteen words are those of the numbers that they hold
pub words-held : (ws : List ℕ) → length ws ≡ 16 → ((i : ℕ) → get_or ws i 0 < 2 ^ 64) → words_from (bit ws) 0 16 ≡ ws
words-held ws long small =
    words-sum (bit ws) 0 16 ws long small (λ i j l. let e : 0 + 64 * i + j ≡ 64 * i + j = omega arith in ap (bit ws) e ∙ bit_in ws i j l)

-- ---- bits from words

bit_le : (t : Bool) → pick t 1 0 ≤ 1
unfolding pick
bit_le true = omega arith
bit_le false = omega arith

word_lt : (p : Marks) (n k : ℕ) → word_from p n k < 2 ^ k
unfolding word_from
word_lt p n zero = omega arith
word_lt p n (suc k) = let two : 2 ^ suc k ≡ 2 ^ k * 2 = pow-suc 2 k in omega (arith, word_lt p (suc n) k, bit_le (p n))

low_bit : (t : Bool) (w : ℕ) → eqb ((pick t 1 0 + 2 * w) % 2) 1 ≡ t
unfolding pick
low_bit true w = eq-eqb ((1 + 2 * w) % 2) 1 (omega arith)
low_bit false w = ne_eqb ((0 + 2 * w) % 2) 1 (λ e. omega arith)

high_bits : (t : Bool) (w : ℕ) → (pick t 1 0 + 2 * w) / 2 ≡ w
high_bits t w = omega (arith, bit_le t)

word_on : (p : Marks) (n k j : ℕ) → j < k → on (word_from p n k) j ≡ p (n + j)
unfolding word_from
word_on p n zero j l = absurd (omega arith)
word_on p n (suc k) zero l =
    ap (λ (x : ℕ). eqb x 1) (at_zero (pick (p n) 1 0 + 2 * word_from p (suc n) k)) ∙ low_bit (p n) (word_from p (suc n) k) ∙ ap p (sym (add-zero n))
word_on p n (suc k) (suc j) l =
    ap (λ (x : ℕ). eqb x 1) (at-half (pick (p n) 1 0 + 2 * word_from p (suc n) k) j ∙ ap (λ (x : ℕ). at x j) (high_bits (p n) (word_from p (suc n) k)))
    ∙ word_on p (suc n) k j (omega arith) ∙ ap p (next_place n j)

words-at : (p : Marks) (n m i : ℕ) → i < m → get_or (words_from p n m) i 0 ≡ word_from p (n + 64 * i) 64
unfolding words_from
words-at p n zero i l = absurd (omega arith)
words-at p n (suc m) zero l = let e : n ≡ n + 64 * 0 = omega arith in ap (λ (x : ℕ). word_from p x 64) e
words-at p n (suc m) (suc i) l =
    let e : n + 64 + 64 * i ≡ n + 64 * suc i = omega arith in
    words-at p (n + 64) m i (omega arith) ∙ ap (λ (x : ℕ). word_from p x 64) e

words_long : (p : Marks) (n m : ℕ) → length (words_from p n m) ≡ m
unfolding words_from
words_long p n zero = refl
words_long p n (suc m) = ap suc (words_long p (n + 64) m)

words_small : (p : Marks) (n m : ℕ) → Small (words_from p n m)
unfolding words_from
words_small p n zero = tt
words_small p n (suc m) = (word_lt p n 64, words_small p (n + 64) m)

-- a set of numbers below 1,000 is what its sixteen words hold
pub marks-back : (p : Marks) → ((n : ℕ) → 1000 ≤ n → p n ≡ false) → bit (words_from p 0 16) ≡ p
marks-back p free = fun_ext (λ (k : ℕ). by-lt k 1024 (inside k) (λ l. bit-behind (words_from p 0 16) k (omega (arith, words_long p 0 16)) ∙ sym (free k (omega arith))))
  where
    inside : (k : ℕ) → k < 1024 → bit (words_from p 0 16) k ≡ p k
    inside k l =
        let e : k ≡ 64 * (k / 64) + k % 64 = omega arith in
        let f : 0 + 64 * (k / 64) + k % 64 ≡ k = omega arith in
        ap (bit (words_from p 0 16)) e ∙ bit_in (words_from p 0 16) (k / 64) (k % 64) (omega arith)
        ∙ ap (λ (w : ℕ). on w (k % 64)) (words-at p 0 16 (k / 64) (omega arith)) ∙ word_on p (0 + 64 * (k / 64)) 64 (k % 64) (omega arith) ∙ ap p f

-- ---- a register's bytes

-- what lent bytes are that say a date and numbers
pub record Says (lent : List ℕ) (d : ℕ) (p : Marks) : Type 0 where
  pub long : register_size ≤ length lent
  pub real : real_day d ≡ true
  pub above : none_above p ≡ true
  pub marks : p ≡ marks_in lent

pub says : (lent : List ℕ) (d : ℕ) (p : Marks) → register_of lent ≡ of d p → Says lent d p
unfolding register_of is_laid
says lent d p h =
    by-test (is_laid lent)
    (λ e. let same : of (date_in lent) (marks_in lent) ≡ of d p = sym (pick_true _ _ e) ∙ h in
    let dates : d ≡ date_in lent = cc in
    let numbers : p ≡ marks_in lent = cc in
    let a = pick-both _ _ e in
    let b = pick-both _ _ a.1 in
    record { long = leb-true register_size (length lent) a.0; real = ap real_day dates ∙ b.0; above = ap none_above numbers ∙ b.1; marks = numbers })
    (λ e. let no : malformed ≡ of d p = sym (pick-false _ _ e) ∙ h in let z : ◌≡◌ {A = ℕ} 0 1 = cc in absurd (omega arith))

-- what stands behind a list's first element
behind : List ℕ → List ℕ
behind [] = []
behind (x ∷ l) = l

module _ (rest : List ℕ) (d : ℕ) (p : Marks) (real : real_day d ≡ true) where
  back : words 17 (register_bytes d p ++ rest) ≡ d ∷ words_from p 0 16
  unfolding register_bytes
  back = words_back 17 (d ∷ words_from p 0 16) rest (ap suc (words_long p 0 16)) (omega (arith, (parts d real).to), words_small p 0 16)

  date-back : date_in (register_bytes d p ++ rest) ≡ d
  unfolding date_in words
  date-back = ap (λ (l : List ℕ). get_or l 0 0) back

  words-behind : words 16 (drop 8 (register_bytes d p ++ rest)) ≡ words_from p 0 16
  unfolding words behind
  words-behind = ap behind back

  bytes-long : length (register_bytes d p ++ rest) ≡ register_size + length rest
  unfolding register_bytes
  bytes-long = omega (arith, length-append (words_bytes (d ∷ words_from p 0 16)) rest, words-length (d ∷ words_from p 0 16), words_long p 0 16)

  -- a date and numbers below 1,000 are got back
  pub bytes_back : ((n : ℕ) → 1000 ≤ n → p n ≡ false) → register_of (register_bytes d p ++ rest) ≡ of d p
  unfolding register_of is_laid marks_in none_above
  bytes_back free =
      let marked : bit (words 16 (drop 8 (register_bytes d p ++ rest))) ≡ p = ap bit words-behind ∙ marks-back p free in
      let above : none_above p ≡ true = eq-eqb _ 0 (taken_none (λ j. p (1000 + j)) 24 (λ j l. free (1000 + j) (omega arith))) in
      let laid : is_laid (register_bytes d p ++ rest) ≡ true =
      both-pick _ _ (le-leb register_size (length (register_bytes d p ++ rest)) (omega (arith, bytes-long)))
      (both-pick _ _ (ap real_day date-back ∙ real) (ap none_above marked ∙ above)) in
      pick_true _ _ laid ∙ ap₂ (λ (x : ℕ) (q : Marks). of x q) date-back marked

-- ---- a date's word put, and sixteen words behind it

module _ (o o1 ws : List ℕ) (d at : ℕ) (v : Wrote o 0 (word_bytes 8 d) o1 at) (long : length ws ≡ 16) where
  pub words-room : register_size ≤ length o → at + 8 * length ws ≤ length o1
  words-room l = omega (arith, v.next, word-length 8 d, wrote-length v)

  pub words-stored : ((i : ℕ) → Fits w64 (get_or ws i 0)) → (o2 : List ℕ) (r : ℕ) → Wrote o1 at (words_bytes ws) o2 r → o2 ≡ laid_in o d (bit ws)
  unfolding laid_in register_bytes put words_bytes
  words-stored fits o2 r w =
      let size : length (word_bytes 8 d ++ words_bytes ws) ≡ register_size = omega (arith, words-length (d ∷ ws)) in
      let held : words_from (bit ws) 0 16 ≡ ws = words-held ws long (λ i. (fits i).fits) in
      (v then w).left ∙ rw (held, size)

pub ruleset stores = (words-room, words-stored)
