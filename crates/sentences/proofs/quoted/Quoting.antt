-- Bytes in quotes, counted: one as it stands or by its digits of sixteen, each of several, the first 60, and none. Assumes nothing.
use mathlib.Core.Path.{◌≡◌, refl, sym, ◌∙◌}
use mathlib.Core.Bool.{Bool, true, false}
use mathlib.Core.List.{List, [], ◌∷◌, ◌++◌, append_assoc, append-nil}
use Prim.Native.Nat.{ℕ, ◌+◌, ◌/◌, ◌%◌, ◌<◌, ◌≤◌}
use native.Mathlib.Numerals.{add-one}
use native.Mathlib.Omega.{arith}
use lib.ListN.{length, take, get_or}
use lib.Seq.{take-suc, take_all, length-take-le}
use Rattle.base.proofs.Cases.{pick_true, pick-false}
use Rattle.paper.specs.Bytes.{bytes, null}
use Rattle.numeral.specs.counted.Counted.{Counted}
use Rattle.numeral.proofs.counted.Laws.{counted-nothing, ◌counted-then◌}
use Rattle.sentences.specs.Quoted.{is_plain, hex_digit, quoted_byte, quoted_bytes, quoted, quoted_or}

-- ---- one byte: t is whether it is plain, h and l are its digits of sixteen

module _ (x : ℕ) (t : Bool) (g : t ≡ is_plain x) {o o1 : List ℕ} {at d : ℕ} where
  pub plain_byte : t ≡ true → Counted o at (x ∷ []) o1 d → Counted o at (quoted_byte x) o1 d
  unfolding quoted_byte
  plain_byte e w = rw (pick_true _ _ (sym g ∙ e)) w

  pub escaped-byte : {o2 o3 : List ℕ} {e r h l : ℕ} → t ≡ false → Counted o at (92 ∷ 120 ∷ []) o1 d → Counted o1 d (h ∷ []) o2 e
      → Counted o2 e (l ∷ []) o3 r → h ≡ hex_digit (x / 16 % 16) → l ≡ hex_digit (x % 16) → Counted o at (quoted_byte x) o3 r
  unfolding quoted_byte
  escaped-byte f w v u high low = rw (pick-false _ _ (sym g ∙ f), ← high, ← low) (w counted-then v counted-then u)

pub ruleset one_byte = (plain_byte, escaped-byte)

-- ---- each of several

each_append : (a b : List ℕ) → quoted_bytes (a ++ b) ≡ quoted_bytes a ++ quoted_bytes b
unfolding quoted_bytes
each_append [] b = refl
each_append (x ∷ a) b = rw (each_append a b) (sym (append_assoc (quoted_byte x) (quoted_bytes a) (quoted_bytes b)))

each-one : (x : ℕ) → quoted_bytes (x ∷ []) ≡ quoted_byte x
unfolding quoted_bytes
each-one x = append-nil (quoted_byte x)

pub first_counted : (s : List ℕ) (n : ℕ) → n < length s → n ≡ length (take n s)
first_counted s n h = sym (length-take-le n s (omega arith))

module _ (s : List ℕ) {o : List ℕ} {at : ℕ} where
  pub each_none : Counted o at (quoted_bytes (take 0 s)) o at
  unfolding quoted_bytes
  each_none = counted-nothing

  module _ (i : ℕ) {o1 : List ℕ} {e : ℕ} (w : Counted o at (quoted_bytes (take i s)) o1 e) where
    pub each_more : {o2 : List ℕ} {r : ℕ} → i < length s → Counted o1 e (quoted_byte (get_or s i 0)) o2 r
        → Counted o at (quoted_bytes (take (i + 1) s)) o2 r
    each_more h v = rw (add-one, take-suc s i 0 h, each_append, each-one) (w counted-then v)

  pub first-all : {o1 : List ℕ} {r : ℕ} → length s ≤ 60 → Counted o at (quoted_bytes s) o1 r → Counted o at (quoted_bytes (take 60 s)) o1 r
  first-all h w = rw (take_all 60 s h) w

pub ruleset each = (each_none, each_more, first-all, first_counted)

-- ---- none

module _ {o o1 : List ℕ} {at r : ℕ} where
  pub or_nothing : (s : List ℕ) → length s ≡ 0 → Counted o at (bytes "nothing") o1 r → Counted o at (quoted_or s) o1 r
  unfolding quoted_or null
  or_nothing [] h w = rw (pick_true _ _ refl) w
  or_nothing (x ∷ s) h w = absurd (omega arith)

  pub or-quoted : (s : List ℕ) → (length s ≡ 0 → ⊥) → Counted o at (quoted s) o1 r → Counted o at (quoted_or s) o1 r
  unfolding quoted_or null
  or-quoted [] h w = absurd (h refl)
  or-quoted (x ∷ s) h w = rw (pick-false _ _ refl) w

pub ruleset nothing = (or_nothing, or-quoted)
