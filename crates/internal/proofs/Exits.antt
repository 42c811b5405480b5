-- What the crate's functions know where they end, as rules for a search: what was read of sixteen bytes, and what was put. Assumes nothing.
use mathlib.Core.Path.{◌≡◌, refl, sym, ap, ◌∙◌}
use mathlib.Core.List.{List, [], ◌++◌, append-nil}
use Prim.Native.Nat.{ℕ, ◌+◌, ◌-◌, ◌≤◌}
use native.Mathlib.Omega.{arith}
use lib.ListN.{length, take, drop, length-append, length-drop}
use lib.Seq.{take_all, drop-length, length-take-le}
use Rattle.std.specs.Prelude.{Result, Ok, Err}
use Rattle.refusal.specs.declared.Refusal.{Refusal}
use Rattle.refusal.specs.Numbers.{number_of}
use Rattle.base.specs.Put.{Wrote}
use Rattle.base.proofs.Lists.{drop-none}
use Rattle.base.proofs.Put.{put-seam, ◌then◌}
use Rattle.out.proofs.put.Room.{wrote-length}
use Rattle.paper.specs.Read.{value, fault, given}
use Rattle.paper.specs.Numerals.{digits, fixed}
use Rattle.paper.specs.Accounts.{account}
use Rattle.numeral.specs.Told.{told}
use Rattle.numeral.proofs.Fixed.{fixed-length}
use Rattle.gpc.specs.Internal.{outside, internal, edited, account_of, read_internal, spell_internal}
use Rattle.internal.proofs.Places.{taken-length}
use Rattle.internal.proofs.Laws.{refused, accepted}

-- ---- reading: e are the bytes d in the edited order, m and n what the digits of prefix and base say

module _ (d e : List ℕ) (f : e ≡ edited d) (m : Result ℕ Refusal) (g : told m ≡ digits 6 6 (take 6 (drop 0 e))) where
  prefix-said : digits 6 6 (take 6 (edited d)) ≡ told m
  prefix-said = rw (← f) (rw (drop-none e) at (sym g))

  pub no-prefix : (k : Refusal) → m ≡ Err k → fault 51 ≡ read_internal d
  unfolding account_of given
  no-prefix k r = sym (refused d (number_of k) (rw (prefix-said, r) refl))

  module _ (p : ℕ) (v : m ≡ Ok p) (n : Result ℕ Refusal) (h : told n ≡ digits 10 10 (take 10 (drop 6 e))) where
    base-said : digits 10 10 (drop 6 (edited d)) ≡ told n
    unfolding edited
    base-said =
        let long : length (drop 6 e) ≡ 10 = omega (arith, length-drop 6 e, ap length f, taken-length outside d) in
        rw (← f) (rw (take_all 10 (drop 6 e) (omega arith)) at (sym h))

    pub no-base : (k : Refusal) → n ≡ Err k → fault 51 ≡ read_internal d
    unfolding account_of given
    no-base k r = sym (refused d (number_of k) (rw (prefix-said, v, base-said, r) refl))

    pub both_read : (b : ℕ) → n ≡ Ok b → length d ≡ 16 → value (account p b) ≡ read_internal d
    unfolding account_of given
    both_read b w long = sym (accepted d (account p b) long (rw (prefix-said, v, base-said, w) refl))

pub ruleset readings = (no-prefix, no-base, both_read)

-- ---- putting

-- a text that fills a buffer is all that is left in it
whole : {o o1 x : List ℕ} {r : ℕ} → length o ≡ length x → Wrote o 0 x o1 r → o1 ≡ x
whole {o} {o1} {x} e w = w.left ∙ put-seam [] o 0 x refl ∙ rw (← e, drop-length o) (append-nil x)

-- `sixteen`
pub bytes-put : (s : List ℕ) (at r : ℕ) {o o1 : List ℕ} → at + 16 ≤ length s → length o ≡ 16 → Wrote o 0 (take (at + 16 - at) (drop at s)) o1 r → o1 ≡ take 16 (drop at s)
bytes-put s at r room long w =
    let n : at + 16 - at ≡ 16 = omega arith in
    whole (omega (arith, length-take-le 16 (drop at s) (omega (arith, length-drop at s)))) (rw n at w)

-- `digits_of`: room behind the prefix, and both written. The last text comes first, so that a search knows the buffer before.
module _ (p : ℕ) {o o1 : List ℕ} {q : ℕ} where
  pub base-room : Wrote o 0 (fixed 6 p) o1 q → length o ≡ 16 → q + 10 ≤ length o1
  base-room v long = omega (arith, v.next, wrote-length v, fixed-length 6 p)

  pub both-put : (b : ℕ) {o2 : List ℕ} {r : ℕ} → Wrote o1 q (fixed 10 b) o2 r → Wrote o 0 (fixed 6 p) o1 q → length o ≡ 16 → o2 ≡ fixed 6 p ++ fixed 10 b
  both-put b w v long = whole (omega (arith, length-append (fixed 6 p) (fixed 10 b), fixed-length 6 p, fixed-length 10 b)) (v then w)

-- `put_internal`
pub internal-put : (d x : List ℕ) (p b : ℕ) {o o1 : List ℕ} {at r : ℕ} → d ≡ fixed 6 p ++ fixed 10 b → x ≡ internal d → Wrote o at x o1 r → Wrote o at (spell_internal (account p b)) o1 r
unfolding spell_internal
internal-put d x p b e f w = rw (f, e) at w

pub ruleset puttings = (bytes-put, base-room, both-put, internal-put)
