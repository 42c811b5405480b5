-- Laws of numbers with a sign that the functions' proofs search by. Assumes nothing.
use Rattle.std.proofs.Common.{◌≡◌, ℕ, ◌+◌, ◌%◌, ◌^◌, ◌<◌, ◌≤◌, Bool, true, false, eqb, sym, ◌∙◌, arith, le-ltb, lt-ltb, eq-eqb, ne_eqb}
use Rattle.base.specs.Pick.{pick}
use Rattle.base.proofs.Cases.{pick_true, pick-false}
use Rattle.gpc.specs.Signed.{Signed, signed, side, negative, signed_word, word_signed}
use Rattle.gpc.specs.Turnovers.{balanced}

abbrev pub number : Bool → ℕ → Signed
number minus n = record { minus = minus; size = n }

-- ---- `Signed::of`

module _ (minus : Bool) (n : ℕ) where
  pub read-zero : n ≡ 0 → number false n ≡ signed minus n
  unfolding signed pick
  read-zero e = rw (eq-eqb n 0 e)

  pub read_some : (n ≡ 0 → ⊥) → number minus n ≡ signed minus n
  unfolding signed pick
  read_some e = rw (ne_eqb n 0 e)

pub ruleset readings = (read-zero, read_some)

-- ---- words

-- what gives nothing with n, modulo 2 ^ 64
pub taken-off : (r n : ℕ) → r < 18446744073709551616 → n < 18446744073709551616 → (r + n) % 2 ^ 64 ≡ 0 → r ≡ negative n
unfolding negative
taken-off r n h k e = omega arith

module _ (x : Signed) (r : ℕ) where
  pub word-minus : x.minus ≡ true → r ≡ negative x.size → r ≡ signed_word x
  unfolding signed_word
  word-minus e f = f ∙ sym (pick_true _ _ e)

  pub word-plus : x.minus ≡ false → r ≡ x.size → r ≡ signed_word x
  unfolding signed_word
  word-plus e f = f ∙ sym (pick-false _ _ e)

module _ (w : ℕ) where
  pub in-plus : w < 9223372036854775808 → number false w ≡ word_signed w
  unfolding word_signed
  in-plus h = sym (pick_true _ _ (lt-ltb w 9223372036854775808 h))

  pub in-minus : (r : ℕ) → 9223372036854775808 ≤ w → w < 18446744073709551616 → r ≡ negative w → number true r ≡ word_signed w
  unfolding word_signed negative
  in-minus r h k e =
      let some : r ≡ 0 → ⊥ = λ z. omega (arith, e) in
      read_some true r some ∙ rw e (sym (pick-false _ _ (le-ltb w 9223372036854775808 h)))

pub ruleset words = (taken-off, word-minus, word-plus, in-plus, in-minus)

-- ---- `balanced`

pub both-sides : (old new debit credit : Signed) (l r : ℕ) → l ≡ side new debit old credit → r ≡ side old credit new debit
    → eqb l r ≡ balanced old new debit credit
unfolding balanced
both-sides old new debit credit l r e f = rw (e, f)
