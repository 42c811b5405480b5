-- The bytes of words: how many there are, and words are got back from them. Assumes nothing.
use mathlib.Core.Path.{◌≡◌, refl, sym, ap}
use mathlib.Core.List.{List, [], ◌∷◌, ◌++◌, append_assoc}
use Prim.Native.Nat.{ℕ, zero, suc, ◌+◌, ◌*◌, ◌/◌, ◌^◌, ◌<◌}
use native.Mathlib.Nat.{pow-suc}
use native.Mathlib.Omega.{arith}
use lib.ListN.{length, drop, get_or, length-append}
use lib.Seq.{take_at, drop_at, drop-drop}
use Rattle.paper.specs.Words.{word_of, word_bytes, words, blanks, words_bytes}
use Rattle.out.specs.word.Sizes.{Small}
use Rattle.out.specs.word.Places.{word_here}

-- ---- a word

pub word-length : (k n : ℕ) → length (word_bytes k n) ≡ k
unfolding word_bytes
word-length zero n = refl
word-length (suc k) n = ap suc (word-length k (n / 256))

-- a number that k bytes can hold comes back
pub word-back-of : (k n : ℕ) → n < 256 ^ k → word_of (word_bytes k n) ≡ n
unfolding word_bytes word_of
word-back-of zero n h = omega arith
word-back-of (suc k) n h =
    let r = word-back-of k (n / 256) (omega (arith, pow-suc 256 k)) in
    omega arith

pub word_back : (n : ℕ) → n < 2 ^ 64 → word_of (word_bytes 8 n) ≡ n
word_back n h = word-back-of 8 n (omega arith)

-- ---- words, one after the other

pub words-length : (ws : List ℕ) → length (words_bytes ws) ≡ 8 * length ws
unfolding words_bytes
words-length [] = refl
words-length (w ∷ ws) = omega (arith, length-append (word_bytes 8 w) (words_bytes ws), word-length 8 w, words-length ws)

pub words_append : (a b : List ℕ) → words_bytes (a ++ b) ≡ words_bytes a ++ words_bytes b
unfolding words_bytes
words_append [] b = refl
words_append (w ∷ a) b = rw (words_append a b) (sym (append_assoc (word_bytes 8 w) (words_bytes a) (words_bytes b)))

pub words_back : (n : ℕ) (r rest : List ℕ) → length r ≡ n → Small r → words n (words_bytes r ++ rest) ≡ r
unfolding words words_bytes
words_back zero [] rest e s = refl
words_back zero (w ∷ ws) rest e s = absurd (omega arith)
words_back (suc n) [] rest e s = absurd (omega arith)
words_back (suc n) (w ∷ ws) rest e (s, ss) =
    rw (
      append_assoc (word_bytes 8 w) (words_bytes ws) rest,
      take_at (word_bytes 8 w) (words_bytes ws ++ rest) 8 (word-length 8 w),
      drop_at (word_bytes 8 w) (words_bytes ws ++ rest) 8 (word-length 8 w),
      word_back w s,
      words_back n ws rest (omega arith) ss,
    )

pub blanks-small : (n : ℕ) → Small (blanks n)
unfolding blanks
blanks-small zero = tt
blanks-small (suc n) = (omega arith, blanks-small n)

-- ---- words by their places

-- word i of n
word-of : (n i : ℕ) (s : List ℕ) → i < n → get_or (words n s) i 0 ≡ word_here s (8 * i)
unfolding words
word-of zero i s h = absurd (omega arith)
word-of (suc n) zero s h = refl
word-of (suc n) (suc i) s h =
    let e : 8 * suc i ≡ 8 + 8 * i = omega arith in
    rw (e, ← drop-drop (8 * i) 8 s) (word-of n i (drop 8 s) (omega arith))

-- word i of the n that begin at a place
pub word-here : (n : ℕ) (s : List ℕ) (at i : ℕ) → i < n → get_or (words n (drop at s)) i 0 ≡ word_here s (at + 8 * i)
word-here n s at i h = rw (← drop-drop (8 * i) at s) (word-of n i (drop at s) h)
