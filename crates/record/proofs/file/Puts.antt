-- Fields put one behind another: room for each, and what they are together; rules for a search. Assumes nothing.
use mathlib.Core.Path.{◌≡◌}
use mathlib.Core.Bool.{true, false}
use mathlib.Core.List.{List, [], ◌∷◌, ◌++◌}
use Prim.Native.Nat.{ℕ, ◌+◌, ◌<◌, ◌≤◌}
use native.Mathlib.Omega.{arith}
use lib.ListN.{length, length-append}
use Rattle.base.specs.Pick.{pick}
use Rattle.base.specs.Put.{Wrote}
use Rattle.base.proofs.Put.{◌then◌}
use Rattle.out.proofs.put.Room.{wrote-length}
use Rattle.paper.specs.Numerals.{fixed}
use Rattle.paper.specs.Accounts.{Account, account}
use Rattle.numeral.proofs.Fixed.{fixed-length}
use Rattle.turnover.proofs.Laws.{signed-length}
use Rattle.gpc.specs.Internal.{spell_internal}
use Rattle.gpc.specs.Signed.{Signed as Number, spell_signed}
use Rattle.gpc.specs.Records.{crlf}

-- what is left behind a text of k bytes
pub behind : {o o1 x : List ℕ} {at p : ℕ} (k n : ℕ) → Wrote o at x o1 p → length x ≡ k → at + (k + n) ≤ length o → p + n ≤ length o1
behind k n w long h = omega (arith, w.next, wrote-length w)

-- ---- `put_signed`

module _ (n : ℕ) {o o1 : List ℕ} {at p : ℕ} (w : Wrote o at (fixed 14 n) o1 p) where
  pub sign-room : at + 15 ≤ length o → p < length o1
  sign-room h = omega (arith, w.next, wrote-length w, fixed-length 14 n)

module _ (x : Number) {o o1 o2 : List ℕ} {at p q : ℕ} where
  pub minus-put : (plus : ℕ) → Wrote o1 p (45 ∷ []) o2 q → Wrote o at (fixed 14 x.size) o1 p → x.minus ≡ true → Wrote o at (spell_signed plus x) o2 q
  unfolding spell_signed pick
  minus-put plus v w e = rw e (w then v)

  pub plus-put : (plus : ℕ) → Wrote o1 p (plus ∷ []) o2 q → Wrote o at (fixed 14 x.size) o1 p → x.minus ≡ false → Wrote o at (spell_signed plus x) o2 q
  unfolding spell_signed pick
  plus-put plus v w e = rw e (w then v)

pub ruleset signeds = (sign-room, minus-put, plus-put)

-- ---- `put_pair`

module _ (plus : ℕ) (x y : Number) {o o1 : List ℕ} {at p : ℕ} where
  pub second-room : Wrote o at (spell_signed plus x) o1 p → at + 30 ≤ length o → p + 15 ≤ length o1
  second-room w h = behind 15 15 w (signed-length plus x) h

  pub pair_put : {o2 : List ℕ} {q : ℕ} → Wrote o1 p (spell_signed plus y) o2 q → Wrote o at (spell_signed plus x) o1 p
      → Wrote o at (spell_signed plus x ++ spell_signed plus y) o2 q
  pair_put v w = w then v

pub pair-length : (plus : ℕ) (x y : Number) → length (spell_signed plus x ++ spell_signed plus y) ≡ 30
pair-length plus x y = omega (arith, length-append (spell_signed plus x) (spell_signed plus y), signed-length plus x, signed-length plus y)

pub ruleset pairs = (second-room, pair_put)

-- ---- `put_front` and `put_end`

abbrev pub front : ℕ → Account → List ℕ
front last a = 48 ∷ 55 ∷ last ∷ spell_internal a

pub front-put : (last p b : ℕ) {o o1 o2 o3 : List ℕ} {at q r s : ℕ} → Wrote o at (48 ∷ 55 ∷ []) o1 q → Wrote o1 q (last ∷ []) o2 r → Wrote o2 r (spell_internal (account p b)) o3 s
    → Wrote o at (front last (account p b)) o3 s
front-put last p b w v u = w then v then u

pub end-put : (kept : List ℕ) {o o1 o2 : List ℕ} {at p q : ℕ} → Wrote o1 p (13 ∷ 10 ∷ []) o2 q → Wrote o at kept o1 p → Wrote o at (kept ++ crlf) o2 q
end-put kept v w = w then v

pub ruleset ends = (front-put, end-put)

-- ---- `put_numbers`

abbrev pub numbers : ℕ → ℕ → ℕ → List ℕ
numbers amount code variable = fixed 12 amount ++ (fixed 1 code ++ fixed 10 variable)

module _ (amount : ℕ) (o o1 : List ℕ) (at p : ℕ) where
  module _ (w : Wrote o at (fixed 12 amount) o1 p) (h : at + 23 ≤ length o) where
    left-11 : p + 11 ≤ length o1
    left-11 = behind 12 11 w (fixed-length 12 amount) h

    pub code-room : p + 1 ≤ length o1
    code-room = omega (arith, left-11)

    pub variable-room : (code : ℕ) (o2 : List ℕ) (q : ℕ) → Wrote o1 p (fixed 1 code) o2 q → q + 10 ≤ length o2
    variable-room code o2 q v = behind 1 10 v (fixed-length 1 code) left-11

  pub numbers-put : (code variable : ℕ) {o2 o3 : List ℕ} {q r : ℕ} → Wrote o at (fixed 12 amount) o1 p → Wrote o1 p (fixed 1 code) o2 q → Wrote o2 q (fixed 10 variable) o3 r
      → Wrote o at (numbers amount code variable) o3 r
  numbers-put code variable w v u = w then v then u

pub numbers-length : (amount code variable : ℕ) → length (numbers amount code variable) ≡ 23
numbers-length amount code variable =
    omega (
      arith,
      length-append (fixed 12 amount) (fixed 1 code ++ fixed 10 variable),
      length-append (fixed 1 code) (fixed 10 variable),
      fixed-length 12 amount,
      fixed-length 1 code,
      fixed-length 10 variable,
    )
