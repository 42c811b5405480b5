-- Texts that fit: at most so many bytes, each of them printable. Their parts, tests, words and numbers. Assumes nothing.
use mathlib.Core.Path.{◌≡◌, refl}
use mathlib.Core.Bool.{Bool, true, false, ◌&&◌}
use mathlib.Core.List.{List, [], ◌∷◌, ◌++◌}
use Prim.Native.Nat.{ℕ, zero, suc, ◌+◌, ◌/◌, ◌%◌, ◌≤◌, max}
use Prim.Native.String.{String}
use native.Mathlib.Omega.{arith}
use lib.Dec.{eqb, ltb, leb}
use lib.ListN.{length, length-append}
use borrow.Author.Tests.{leb-true, le-leb, le-ltb, ne_eqb}
use Rattle.base.specs.Pick.{pick}
use Rattle.base.specs.Seek.{all}
use Rattle.base.proofs.Cases.{either, both}
use Rattle.base.proofs.Seek.{all_cons, all_append, all_weaker}
use Rattle.paper.specs.Bytes.{bytes, is_digit}
use Rattle.paper.specs.Numerals.{dec_on, decimal, fixed}
use Rattle.numeral.proofs.Fixed.{fixed-length}
use Rattle.numeral.proofs.Plain.{digit-range, decimal-plain, fixed_plain}
use Rattle.sentences.specs.Phrases.{Phrase, said}
use Rattle.sentences.specs.Printable.{is_printable}

-- at most n bytes, each of them LF or 32 to 126
pub record Fits (n : ℕ) (s : List ℕ) : Type 0 where
  pub short : length s ≤ n
  pub printable : all is_printable s ≡ true

-- ---- parts and tests

pub fits-none : {n : ℕ} → Fits n []
unfolding all
fits-none = record { short = omega arith; printable = refl }

pub fits_wider : {m n : ℕ} {s : List ℕ} → m ≤ n → Fits m s → Fits n s
fits_wider h w = record { short = omega (arith, w.short); printable = w.printable }

infixr 30 ◌fits-then◌
pub ◌fits-then◌ : {m n : ℕ} {s t : List ℕ} → Fits m s → Fits n t → Fits (m + n) (s ++ t)
◌fits-then◌ {m} {n} {s} {t} v w =
    record {
      short = omega (arith, length-append s t, v.short, w.short);
      printable = all_append is_printable s t v.printable w.printable;
    }

-- by a test, whatever it answers
pub fits_or : {m n : ℕ} {s t : List ℕ} (test : Bool) → Fits m s → Fits n t → Fits (max m n) (pick test s t)
fits_or {m} {n} {s} {t} test v w =
    either (Fits (max m n)) test (λ _. fits_wider (omega arith) v) (λ _. fits_wider (omega arith) w)

-- ---- one byte

pub range-printable : (x : ℕ) → 32 ≤ x → x ≤ 126 → is_printable x ≡ true
unfolding is_printable pick
range-printable x lo hi =
    let other : eqb x 10 ≡ false = ne_eqb x 10 (λ e. omega arith) in
    simp (other, le-ltb x 32 lo, le-leb x 126 hi)

pub fits_byte : {x : ℕ} → is_printable x ≡ true → Fits 1 (x ∷ [])
unfolding all
fits_byte {x} e = record { short = omega arith; printable = all_cons is_printable x [] e refl }

-- ---- words

-- 32 to 126, open everywhere, so that it is computed of words
abbrev clear : List ℕ → Bool
clear [] = true
clear (x ∷ s) = (leb 32 x && leb x 126) && clear s

clear-printable : (s : List ℕ) → clear s ≡ true → all is_printable s ≡ true
unfolding all
clear-printable [] e = refl
clear-printable (x ∷ s) e =
    let (here, there) = both (leb 32 x && leb x 126) (clear s) e in
    let (lo, hi) = both (leb 32 x) (leb x 126) here in
    all_cons is_printable x s (range-printable x (leb-true 32 x lo) (leb-true x 126 hi)) (clear-printable s there)

-- words as they stand: what they are and how long they are is computed
pub fits-words : (s : String) → clear (bytes s) ≡ true → Fits (length (bytes s)) (bytes s)
fits-words s e = record { short = omega arith; printable = clear-printable (bytes s) e }

-- every entry of a table has at most b bytes, all clear
abbrev pub within : ℕ → List Phrase → Bool
within b [] = true
within b (p ∷ ps) = (leb (length p.words) b && clear p.words) && within b ps

pub fits_said : (b : ℕ) (ps : List Phrase) (n : ℕ) → within b ps ≡ true → Fits b (said ps n)
unfolding said
fits_said b [] n e = fits-none
fits_said b (p ∷ ps) n e =
    let (here, there) = both (leb (length p.words) b && clear p.words) (within b ps) e in
    let (few, plain) = both (leb (length p.words) b) (clear p.words) here in
    either (Fits b) (eqb n p.number)
    (λ _. record { short = leb-true (length p.words) b few; printable = clear-printable p.words plain })
    (λ _. fits_said b ps n there)

-- ---- numbers

digits-printable : (s : List ℕ) → all is_digit s ≡ true → all is_printable s ≡ true
digits-printable =
    all_weaker is_digit is_printable λ x h. let (lo, hi) = digit-range x h in range-printable x (omega arith) (omega arith)

-- k digits more at most
decimal-on : (k n : ℕ) (s : List ℕ) → length (dec_on k n s) ≤ k + length s
unfolding dec_on
decimal-on zero n s = omega arith
decimal-on (suc k) n s =
    either (λ r. length r ≤ suc k + length s) (ltb n 10) {a = (48 + n) ∷ s} {b = dec_on k (n / 10) ((48 + n % 10) ∷ s)}
    (λ _. omega arith)
    (λ _. omega (arith, decimal-on k (n / 10) ((48 + n % 10) ∷ s)))

pub fits-decimal : (n : ℕ) → Fits 20 (decimal n)
unfolding decimal
fits-decimal n = record { short = omega (arith, decimal-on 20 n []); printable = digits-printable (decimal n) (decimal-plain n) }

pub fits-fixed : (k n : ℕ) → Fits k (fixed k n)
fits-fixed k n = record { short = omega (arith, fixed-length k n); printable = digits-printable (fixed k n) (fixed_plain k n) }
