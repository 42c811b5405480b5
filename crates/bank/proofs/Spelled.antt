-- How long the bank field's canonical spelling is, and what its writer writes. Assumes nothing.
use mathlib.Core.Path.{◌≡◌, sym, ap, ◌∙◌}
use mathlib.Core.List.{List, [], ◌∷◌, ◌++◌}
use Prim.Native.Nat.{ℕ, ◌+◌, ◌*◌, ◌/◌, ◌%◌, ◌≤◌, ◌<◌}
use native.Mathlib.Omega.{arith}
use lib.Dec.{eqb}
use lib.ListN.{length, length-append}
use borrow.Author.Tests.{eq-eqb, ne_eqb}
use Rattle.base.specs.Pick.{pick}
use Rattle.base.specs.Put.{Wrote}
use Rattle.base.proofs.Cases.{by-eq}
use Rattle.base.proofs.Put.{◌then◌}
use Rattle.out.proofs.put.Room.{wrote-length, wrote_none}
use Rattle.paper.specs.Numerals.{fixed_on, fixed}
use Rattle.paper.specs.BankField.{spell_bank}
use Rattle.numeral.proofs.Fixed.{fixed-length}
use Rattle.numeral.proofs.Join.{join-fixed}

-- the priority 5 is not spelled
module _ (p : ℕ) (e : p ≡ 5) where
  pub short : (b c : ℕ) → spell_bank b c p ≡ fixed 8 (b * 10000 + c)
  unfolding spell_bank pick
  short b c = simp (eq-eqb p 5 e)

  pub short-length : (b c : ℕ) → 8 ≡ length (spell_bank b c p)
  short-length b c = sym (ap length (short b c) ∙ fixed-length 8 (b * 10000 + c))

  pub short-front : [] ≡ pick (eqb p 5) [] (fixed 2 p)
  unfolding pick
  short-front = sym (simp (eq-eqb p 5 e))

-- any other is, with a zero in front
module _ (p : ℕ) (n : p ≡ 5 → ⊥) where
  pub long : (b c : ℕ) → spell_bank b c p ≡ fixed 10 (p * 100000000 + (b * 10000 + c))
  unfolding spell_bank pick
  long b c = simp (ne_eqb p 5 n)

  pub long-length : (b c : ℕ) → 10 ≡ length (spell_bank b c p)
  long-length b c = sym (ap length (long b c) ∙ fixed-length 10 (p * 100000000 + (b * 10000 + c)))

  pub long-front : p ≤ 9 → 48 ∷ (48 + p) ∷ [] ≡ pick (eqb p 5) [] (fixed 2 p)
  unfolding pick fixed fixed_on
  long-front h =
      let z : p / 10 % 10 ≡ 0 = omega arith in
      let d : p % 10 ≡ p = omega arith in
      sym (simp (ne_eqb p 5 n, z, d))

pub spell-bank-most : (b c p : ℕ) → length (spell_bank b c p) ≤ 10
spell-bank-most b c p = by-eq p 5 (λ e. omega (arith, short-length p e b c)) (λ n. omega (arith, long-length p n b c))

-- ---- what `put_priority` and `put_bank` write

-- nothing, or two bytes
pub front-none : (p at : ℕ) (o : List ℕ) → p ≡ 5 → at + length (pick (eqb p 5) [] (fixed 2 p)) ≤ length o → Wrote o at (pick (eqb p 5) [] (fixed 2 p)) o at
front-none p at o e h = rw (← short-front p e) (wrote_none o at (omega arith))

module _ (p : ℕ) (n : p ≡ 5 → ⊥) (l : p ≤ 9) where
  pub front-room : (at m : ℕ) → at + length (pick (eqb p 5) [] (fixed 2 p)) ≤ m → at < m
  front-room at m h = omega (arith, ap length (long-front p n l))

  module _ {o o1 : List ℕ} {at q : ℕ} (v : Wrote o at (48 ∷ []) o1 q) where
    pub front-next : at + length (pick (eqb p 5) [] (fixed 2 p)) ≤ length o → q < length o1
    front-next h = omega (arith, ap length (long-front p n l), v.next, wrote-length v)

    pub front-wrote : {o2 : List ℕ} {r : ℕ} → Wrote o1 q ((48 + p) ∷ []) o2 r → Wrote o at (pick (eqb p 5) [] (fixed 2 p)) o2 r
    front-wrote w = rw (← long-front p n l) (v then w)

module _ (b c p : ℕ) (hb : b ≤ 9999) (hc : c ≤ 9999) where
  -- the field in its parts
  parts : spell_bank b c p ≡ pick (eqb p 5) [] (fixed 2 p) ++ (fixed 4 b ++ fixed 4 c)
  unfolding pick
  parts =
      let eight : fixed 8 (b * 10000 + c) ≡ fixed 4 b ++ fixed 4 c = join-fixed 4 4 b c (omega arith) in
      by-eq p 5
      (λ e. short p e b c ∙ eight ∙ simp (eq-eqb p 5 e))
      (λ n. long p n b c ∙ join-fixed 2 8 p (b * 10000 + c) (omega arith) ∙ simp (ne_eqb p 5 n) (rw eight))

  long-parts : length (spell_bank b c p) ≡ length (pick (eqb p 5) [] (fixed 2 p)) + 8
  long-parts =
      omega (arith, ap length parts, length-append (pick (eqb p 5) [] (fixed 2 p)) (fixed 4 b ++ fixed 4 c), length-append (fixed 4 b) (fixed 4 c), fixed-length 4 b, fixed-length 4 c)

  pub bank-room : (at m : ℕ) → at + length (spell_bank b c p) ≤ m → at + length (pick (eqb p 5) [] (fixed 2 p)) ≤ m
  bank-room at m room = omega (arith, long-parts)

  module _ {o o1 : List ℕ} {at q : ℕ} (v : Wrote o at (pick (eqb p 5) [] (fixed 2 p)) o1 q) where
    pub bank-next : at + length (spell_bank b c p) ≤ length o → q + 4 ≤ length o1
    bank-next room = omega (arith, long-parts, v.next, wrote-length v)

  pub bank-wrote : {o o1 o2 o3 : List ℕ} {at q r e : ℕ} → Wrote o at (pick (eqb p 5) [] (fixed 2 p)) o1 q → Wrote o1 q (fixed 4 b) o2 r → Wrote o2 r (fixed 4 c) o3 e → Wrote o at (spell_bank b c p) o3 e
  bank-wrote u v w = rw parts (u then v then w)

pub bank-last : (b c p : ℕ) {o o1 o2 : List ℕ} {at q r : ℕ} → Wrote o1 q (fixed 4 b) o2 r → Wrote o at (pick (eqb p 5) [] (fixed 2 p)) o1 q → at + length (spell_bank b c p) ≤ length o → b ≤ 9999 → c ≤ 9999 → r + 4 ≤ length o2
bank-last b c p w v room hb hc = omega (arith, long-parts b c p hb hc, v.next, wrote-length v, w.next, wrote-length w, fixed-length 4 b)

pub ruleset spelled = (short-length, long-length, front-none, front-room, front-next, front-wrote, bank-room, bank-next, bank-last, bank-wrote)
