-- What holds of numbers with a sign, of a statement's sums and of their tests, for the calls that are to stand on them. Assumes nothing.
use Rattle.std.proofs.Common.{◌≡◌, ℕ, ◌+◌, ◌*◌, ◌<◌, ◌≤◌, Bool, true, false, eqb, ltb, List, [], ◌∷◌, ◌++◌, length, sym, refl, ap, ◌∙◌, arith, length-append, le-ltb, lt-ltb, eq-eqb, ne_eqb, eqb-true}
use Rattle.base.specs.Pick.{pick}
use Rattle.base.proofs.Cases.{either, by-eq}
use Rattle.paper.specs.Batch.{most14}
use Rattle.paper.specs.Read.{value}
use Rattle.paper.specs.Numerals.{fixed}
use Rattle.paper.specs.Entries.{Said, on_field}
use Rattle.numeral.proofs.Fixed.{fixed-length}
use Rattle.numeral.proofs.Back.{fixed_back}
use Rattle.gpc.specs.Parts.{slice, or51}
use Rattle.gpc.specs.Signed.{Signed, signed, Fourteen, is_difference, above, below, side, read_digits, read_minus, on_signed, spell_signed, negative, signed_word, word_signed}
use Rattle.gpc.specs.Turnovers.{Moved, moved, is_code, most12, part, total, balanced}
use Rattle.turnover.specs.declared.Turn.{Turn}
use Rattle.turnover.specs.declared.Turns.{Turns}
use Rattle.turnover.specs.Counts.{Stands, Room, Small, none, one, Counts, Roomy}
use Rattle.turnover.proofs.Sums.{stands-as, same_test, difference}
use Rattle.turnover.proofs.signed.Signs.{number, read-zero, read_some}

-- ---- a sign and a size

-- minus before zero is read as zero
pub minus-zero : (minus : Bool) → signed minus 0 ≡ number false 0
unfolding signed pick
minus-zero minus = refl

-- so what is read has no minus zero
pub read-fourteen : (minus : Bool) (n : ℕ) → n ≤ most14 → Fourteen (signed minus n)
unfolding signed pick
read-fourteen minus n h =
    by-eq n 0
    (λ e. record { small = h; some = λ t. absurd (let z : ◌≡◌ {A = ℕ} 0 1 = cc (eq-eqb n 0 e) in omega arith) })
    (λ e. record { small = h; some = λ t. omega arith })

-- what can be read is read as it is
signed_same : (minus : Bool) (n : ℕ) → (minus ≡ true → 0 < n) → signed minus n ≡ number minus n
signed_same true n some = sym (read_some true n (λ e. omega (arith, some refl)))
signed_same false n some = by-eq n 0 (λ e. sym (read-zero false n e)) (λ e. sym (read_some false n e))

-- ---- a record's field: `plus` is the byte that says plus, s the record, `at` the field's place in it

module _ {B : Type 0} (plus at : ℕ) (s : List ℕ) (k : Signed → Said B) where
  spelled : (minus : Bool) (n b : ℕ) → n ≤ most14 → slice at 14 s ≡ fixed 14 n → slice (at + 14) 1 s ≡ b ∷ [] → read_minus plus (b ∷ []) ≡ value minus
      → on_signed plus at s k ≡ k (signed minus n)
  unfolding on_signed on_field read_digits or51
  spelled minus n b h d g e = rw (d, fixed_back 14 n (omega arith), g, e) refl

  -- minus before fourteen zeros is read as zero
  pub field-zero : slice at 14 s ≡ fixed 14 0 → slice (at + 14) 1 s ≡ 45 ∷ [] → on_signed plus at s k ≡ k (number false 0)
  unfolding read_minus pick
  field-zero d g = spelled true 0 45 (omega arith) d g refl ∙ ap k (minus-zero true)

  sign-back : (minus : Bool) → (plus ≡ 45 → ⊥) → read_minus plus (pick minus 45 plus ∷ []) ≡ value minus
  unfolding read_minus pick
  sign-back true n = refl
  sign-back false n = rw (ne_eqb plus 45 n, eq-eqb plus plus refl) refl

  -- what fourteen digits and a sign can say is read back from its spelling
  pub field_back : (x : Signed) → Fourteen x → (plus ≡ 45 → ⊥) → slice at 14 s ≡ fixed 14 x.size → slice (at + 14) 1 s ≡ pick x.minus 45 plus ∷ []
      → on_signed plus at s k ≡ k x
  field_back x h n d g =
      spelled x.minus x.size (pick x.minus 45 plus) h.small d g (sign-back x.minus n)
      ∙ ap k (signed_same x.minus x.size h.some)

pub signed-length : (plus : ℕ) (x : Signed) → length (spell_signed plus x) ≡ 15
unfolding spell_signed
signed-length plus x = omega (arith, length-append (fixed 14 x.size) (pick x.minus 45 plus ∷ []), fixed-length 14 x.size)

-- ---- words of a row

back : (minus : Bool) (n : ℕ) → n ≤ most14 → (minus ≡ true → 0 < n) → word_signed (signed_word (number minus n)) ≡ number minus n
unfolding word_signed signed_word negative pick
back true n h some =
    let s = some refl in
    let high : 9223372036854775808 ≤ negative n = omega arith in
    let same : negative (negative n) ≡ n = omega arith in
    rw (le-ltb (negative n) 9223372036854775808 high, same) (signed_same true n some)
back false n h some = rw (lt-ltb n 9223372036854775808 (omega arith))

-- what fourteen digits and a sign can say comes back from its word
pub word_back : (x : Signed) → Fourteen x → word_signed (signed_word x) ≡ x
word_back x h = back x.minus x.size h.small h.some

-- .. and never minus zero, so a word of at most fourteen digits says what a field can say
pub word-fourteen : (w : ℕ) → (word_signed w).size ≤ most14 → Fourteen (word_signed w)
unfolding word_signed signed
word-fourteen w =
    either (λ (x : Signed). x.size ≤ most14 → Fourteen x) (ltb w 9223372036854775808)
    (λ t s. record { small = s; some = λ e. absurd (let f : false ≡ true = e in let z : ◌≡◌ {A = ℕ} 0 1 = cc in omega arith) })
    (λ t s. read-fourteen true (negative w) s)

-- ---- sums

-- a movement of one of the four codes goes to one sum, whole
pub code-counted : (c n : ℕ) → is_code c ≡ true → part 1 (moved c n) + part 4 (moved c n) + (part 2 (moved c n) + part 5 (moved c n)) ≡ n
unfolding is_code part pick
code-counted c n h =
    by-eq c 1 (λ e. rw e (omega arith)) λ n1.
    by-eq c 2 (λ e. rw e (omega arith)) λ n2.
    by-eq c 4 (λ e. rw e (omega arith)) λ n4.
    by-eq c 5 (λ e. rw e (omega arith)) λ n5.
    absurd (let f : false ≡ true = simp (ne_eqb c 1 n1, ne_eqb c 2 n2, ne_eqb c 4 n4, ne_eqb c 5 n5) at h in let z : ◌≡◌ {A = ℕ} 0 1 = cc in omega arith)

-- one movement more: it does not matter at which end
pub total-last : (c : ℕ) (ms : List Moved) (m : Moved) → total c (ms ++ (m ∷ [])) ≡ total c (m ∷ ms)
unfolding total
total-last c [] m = refl
total-last c (n ∷ ms) m = omega (arith, total-last c ms m)

small-last : (m : Moved) (ms : List Moved) → m.amount ≤ most12 → Small ms → Small (ms ++ (m ∷ []))
small-last m [] h none = one h none
small-last m (n ∷ ms) h (one k s) = one k (small-last m ms h s)

pub counts-last : (t : Turns) (m : Moved) (ms : List Moved) → Counts t (m ∷ ms) → Counts t (ms ++ (m ∷ []))
counts-last t m ms h =
    record {
      debits = stands-as t.debit _ _ _ _ (sym (total-last 1 ms m)) (sym (total-last 4 ms m)) h.debits;
      credits = stands-as t.credit _ _ _ _ (sym (total-last 2 ms m)) (sym (total-last 5 ms m)) h.credits;
      amounts = last h.amounts;
    }
  where
    last : Small (m ∷ ms) → Small (ms ++ (m ∷ []))
    last (one k s) = small-last m ms k s

total-le : (c : ℕ) {ms : List Moved} → Small ms → total c ms ≤ length ms * most12
unfolding total part
total-le c none = omega arith
total-le c (one {m} {ms} h s) =
    let p : part c m ≤ most12 = either (λ n. n ≤ most12) (eqb m.code c) (λ t. h) (λ t. omega arith) in
    omega (arith, total-le c s)

-- A file has fewer than 2 ^ 64 bytes and a movement 130 of them, so no sum of a file's movements stops, and none wraps.
pub room : (t : Turns) (ms : List Moved) → length ms * 130 ≤ 18446744073709551615 → Counts t ms → Roomy t
room t ms few h = record { debit = free t.debit (at 1) (at 4) h.debits; credit = free t.credit (at 2) (at 5) h.credits }
  where
    at : (c : ℕ) → total c ms ≤ length ms * most12
    at c = total-le c h.amounts

    free : (x : Turn) {u d : ℕ} → u ≤ length ms * most12 → d ≤ length ms * most12 → Stands x u d → Room x
    free x p q k = record { small = k.small; above = omega (arith, k.same, k.small); below = omega (arith, k.same, k.small) }

-- ---- the tests are exactly the equations

module _ (u d : ℕ) (x : Signed) where
  pub difference-true : is_difference u d x ≡ true → above x + d ≡ u + below x
  difference-true e = eqb-true (above x + d) (u + below x) (sym (difference u d x) ∙ e)

same_number : (m k : Bool) (a b : ℕ) → (m ≡ true → 0 < a) → (k ≡ true → 0 < b) → pick m 0 a + pick k b 0 ≡ pick k 0 b + pick m a 0
    → number m a ≡ number k b
unfolding pick
same_number true true a b f g e = ap (number true) (omega arith)
same_number false false a b f g e = ap (number false) (omega arith)
same_number true false a b f g e = absurd (omega (arith, f refl))
same_number false true a b f g e = absurd (omega (arith, g refl))

-- of all that a field can say, one number is the difference
pub one-difference : (u d : ℕ) (x y : Signed) → Fourteen x → Fourteen y → is_difference u d x ≡ true → is_difference u d y ≡ true → x ≡ y
unfolding above below
one-difference u d x y f g e h =
    let p = difference-true u d x e in
    let q = difference-true u d y h in
    let r : above x + below y ≡ above y + below x = omega arith in
    same_number x.minus y.minus x.size y.size f.some g.some r

-- the new balance is old − debit + credit
pub balance-difference : (old new debit credit : Signed)
    → balanced old new debit credit ≡ is_difference (above old + below debit + above credit) (below old + above debit + below credit) new
unfolding balanced side
balance-difference old new debit credit =
    let up = above old + below debit + above credit in
    let down = below old + above debit + below credit in
    same_test (side new debit old credit) (side old credit new debit) (above new + down) (up + below new) (λ e. omega arith) (λ e. omega arith)
    ∙ sym (difference up down new)
