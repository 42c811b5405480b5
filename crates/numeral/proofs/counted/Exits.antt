-- How the writers end: with room for the text, and without. Assumes nothing.
use Rattle.std.proofs.Common.{◌≡◌, ℕ, ◌+◌, ◌-◌, ◌%◌, ◌^◌, ◌<◌, ◌≤◌, Bool, true, false, leb, List, length, sym, refl, ◌∙◌, arith, le-leb, leb-false, leb-true}
use borrow.Author.Tests.{lt-leb}
use Rattle.base.specs.Put.{Wrote}
use Rattle.base.proofs.Cases.{by-lt}
use Rattle.out.proofs.put.Room.{wrote-length}
use Rattle.numeral.specs.counted.Counted.{Counted}

-- ---- fits: a test of what is left, and nothing is left past the end

pub left-test : (len at n : ℕ) → at ≤ len → leb n (len - at) ≡ leb (at + n) len
left-test len at n h =
    by-lt len (at + n)
    (λ lt. lt-leb n (len - at) (omega arith) ∙ sym (lt-leb (at + n) len lt))
    (λ le. le-leb n (len - at) (omega arith) ∙ sym (le-leb (at + n) len le))

pub past-test : (len at n : ℕ) → len < at → false ≡ leb (at + n) len
past-test len at n h = sym (lt-leb (at + n) len (omega arith))

pub ruleset tests = (left-test, past-test)

-- ---- the writers: t is what it answered for a text of n bytes

module _ (t : Bool) (at n m : ℕ) (g : t ≡ leb (at + n) m) (e : t ≡ true) where
  pub byte-room : n ≡ 1 → at < m
  byte-room one = omega (arith, leb-true (at + n) m (sym g ∙ e))

  pub text-room : (x : List ℕ) → n ≡ length x → at + length x ≤ m
  text-room x long = omega (arith, leb-true (at + n) m (sym g ∙ e))

module _ {o : List ℕ} {at : ℕ} {x : List ℕ} {r : ℕ} where
  -- it was written
  pub wrote-counted : {o1 : List ℕ} → Wrote o at x o1 r → Counted o at x o1 r
  wrote-counted w = record { long = wrote-length w; next = λ _. w.next; left = λ _ _. w.left }

  -- it was not
  pub only-counted : (t : Bool) (n : ℕ) → t ≡ leb (at + n) (length o) → t ≡ false → n ≡ length x → r ≡ (at + n) % 2 ^ 64 → Counted o at x o r
  only-counted t n g e long next =
      record { long = refl; next = λ h. omega arith; left = λ h room. absurd (omega (arith, leb-false (at + n) (length o) (sym g ∙ e))) }

pub ruleset exits = (byte-room, text-room, wrote-counted, only-counted)
