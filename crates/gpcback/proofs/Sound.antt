-- A record that is read has a line end and says what can be written, field by field. Assumes nothing.
use mathlib.Core.Path.{◌≡◌, refl, sym, subst}
use mathlib.Core.Bool.{true, false}
use mathlib.Core.List.{List}
use Prim.Native.Nat.{ℕ, ◌≤◌}
use native.Mathlib.Omega.{arith}
use lib.ListN.{length, drop, length-drop}
use Rattle.base.specs.Pick.{pick}
use Rattle.base.specs.Seek.{starts}
use Rattle.base.proofs.Cases.{by-test}
use Rattle.base.proofs.Seek.{starts-long}
use Rattle.paper.specs.Read.{value}
use Rattle.paper.specs.Bytes.{bytes}
use Rattle.paper.specs.Numerals.{digits}
use Rattle.paper.specs.Entries.{Said, got}
use Rattle.numeral.proofs.Sound.{digits-sound}
use Rattle.gpc.specs.Parts.{slice}
use Rattle.gpc.specs.Internal.{read_internal}
use Rattle.gpc.specs.Signed.{balance_plus, turnover_plus, read_digits}
use Rattle.gpc.specs.Records.{Head, Movement, Thing, a_head, a_movement, strange, head_is, movement_is, no_record, said, read_code, read_head, read_movement, crlf, read_record}
use Rattle.gpcback.specs.Proper.{ProperHead, ProperMovement, Proper}
use Rattle.gpcback.proofs.ReadFields.{got_same, on-got, slice-length, account-proper, digits_value, code-proper, SignedSaid, signed-fourteen, signed-got}

-- ---- a head, field by field

pub record HeadSaid (s : List ℕ) (h : Head) : Type 0 where
  pub account : read_internal (slice 3 16 s) ≡ value h.account
  pub before : slice 19 26 s ≡ h.before
  pub old : SignedSaid balance_plus (slice 45 14 s) (slice 59 1 s) h.old
  pub new : SignedSaid balance_plus (slice 60 14 s) (slice 74 1 s) h.new
  pub debit : SignedSaid turnover_plus (slice 75 14 s) (slice 89 1 s) h.debit
  pub credit : SignedSaid turnover_plus (slice 90 14 s) (slice 104 1 s) h.credit
  pub behind : slice 105 23 s ≡ h.behind

module _ (s : List ℕ) (h : Head) where
  pub head-said : read_head s ≡ got h → HeadSaid s h
  unfolding read_head
  head-said e =
      let a = on-got 3 (read_internal (slice 3 16 s)) _ h e in
      let o = signed-got balance_plus 45 s _ h a.2 in
      let n = signed-got balance_plus 60 s _ h o.2 in
      let d = signed-got turnover_plus 75 s _ h n.2 in
      let c = signed-got turnover_plus 90 s _ h d.2 in
      subst (HeadSaid s) (got_same c.2)
      (record { account = a.1; before = refl; old = o.1; new = n.1; debit = d.1; credit = c.1; behind = refl })

  head-proper : HeadSaid s h → 128 ≤ length s → ProperHead h
  head-proper r l =
      record {
        account = account-proper (slice 3 16 s) h.account r.account;
        before = rw (← r.before) (slice-length 19 26 s (omega arith));
        old = signed-fourteen r.old;
        new = signed-fourteen r.new;
        debit = signed-fourteen r.debit;
        credit = signed-fourteen r.credit;
        behind = rw (← r.behind) (slice-length 105 23 s (omega arith));
      }

-- ---- a movement

pub record MovementSaid (s : List ℕ) (m : Movement) : Type 0 where
  pub account : read_internal (slice 3 16 s) ≡ value m.account
  pub other : read_internal (slice 19 16 s) ≡ value m.other
  pub before : slice 35 13 s ≡ m.before
  pub amount : digits 12 12 (slice 48 12 s) ≡ value m.amount
  pub code : read_code (slice 60 1 s) ≡ value m.code
  pub variable : digits 10 10 (slice 61 10 s) ≡ value m.variable
  pub behind : slice 71 57 s ≡ m.behind

module _ (s : List ℕ) (m : Movement) where
  pub movement-said : read_movement s ≡ got m → MovementSaid s m
  unfolding read_movement
  movement-said e =
      let a = on-got 3 (read_internal (slice 3 16 s)) _ m e in
      let o = on-got 19 (read_internal (slice 19 16 s)) _ m a.2 in
      let n = on-got 48 (read_digits 12 (slice 48 12 s)) _ m o.2 in
      let c = on-got 60 (read_code (slice 60 1 s)) _ m n.2 in
      let v = on-got 61 (read_digits 10 (slice 61 10 s)) _ m c.2 in
      subst (MovementSaid s) (got_same v.2)
      (record {
        account = a.1;
        other = o.1;
        before = refl;
        amount = digits_value 12 (slice 48 12 s) n.0 n.1;
        code = c.1;
        variable = digits_value 10 (slice 61 10 s) v.0 v.1;
        behind = refl;
      })

  movement-proper : MovementSaid s m → 128 ≤ length s → ProperMovement m
  movement-proper r l =
      record {
        account = account-proper (slice 3 16 s) m.account r.account;
        other = account-proper (slice 19 16 s) m.other r.other;
        before = rw (← r.before) (slice-length 35 13 s (omega arith));
        amount = omega (arith, digits-sound 12 12 (slice 48 12 s) m.amount r.amount);
        code = code-proper (slice 60 1 s) m.code r.code;
        variable = omega (arith, digits-sound 10 10 (slice 61 10 s) m.variable r.variable);
        behind = rw (← r.behind) (slice-length 71 57 s (omega arith));
      }

-- ---- a record

-- its type, and its fields
abbrev pub Says : List ℕ → Thing → Type 0
Says s (a_head h) = (starts (bytes "074") s ≡ true) × HeadSaid s h
Says s (a_movement m) = (starts (bytes "074") s ≡ false) × (starts (bytes "075") s ≡ true) × MovementSaid s m
Says s strange = ⊥

-- what is not strange is read as a record
pub no_none : (t : Thing) → (t ≡ strange → ⊥) → {P : Type 0} → no_record ≡ said t → P
unfolding said
no_none (a_head h) n e = absurd (let z : ◌≡◌ {A = ℕ} 0 1 = cc in omega arith)
no_none (a_movement m) n e = absurd (let z : ◌≡◌ {A = ℕ} 0 1 = cc in omega arith)
no_none strange n e = absurd (n refl)

-- no head is a movement
pub two-kinds : {P : Type 0} (h : Said Head) (m : Said Movement) → head_is h ≡ movement_is m → P
two-kinds h m e = absurd (let z : ◌≡◌ {A = ℕ} 0 1 = cc in omega arith)

module _ (s : List ℕ) where
  typed : (t : Thing) → (t ≡ strange → ⊥)
      → pick (starts (bytes "074") s) (head_is (read_head s)) (pick (starts (bytes "075") s) (movement_is (read_movement s)) no_record) ≡ said t → Says s t
  unfolding said pick
  typed (a_head h) n e =
      by-test (starts (bytes "074") s)
      (λ a. (a, head-said s h (let f : head_is (read_head s) ≡ head_is (got h) = simp a at e in cc)))
      (λ a. by-test (starts (bytes "075") s)
      (λ b. two-kinds (got h) (read_movement s) (sym (simp (a, b) at e)))
      (λ b. no_none (a_head h) n (simp (a, b) at e)))
  typed (a_movement m) n e =
      by-test (starts (bytes "074") s)
      (λ a. two-kinds (read_head s) (got m) (simp a at e))
      (λ a. by-test (starts (bytes "075") s)
      (λ b. (a, b, movement-said s m (let f : movement_is (read_movement s) ≡ movement_is (got m) = simp (a, b) at e in cc)))
      (λ b. no_none (a_movement m) n (simp (a, b) at e)))
  typed strange n e = absurd (n refl)

  module _ (t : Thing) (e : read_record s ≡ said t) (n : t ≡ strange → ⊥) where
    pub ended : starts crlf (drop 128 s) ≡ true
    unfolding read_record pick
    ended = by-test (starts crlf (drop 128 s)) (λ a. a) (λ a. no_none t n (simp a at e))

    pub says : Says s t
    unfolding read_record pick
    says = typed t n (simp ended at e)

    -- so it has all its bytes
    long : 130 ≤ length s
    long = omega (arith, starts-long crlf (drop 128 s) ended, length-drop 128 s)

  of-said : (t : Thing) → 130 ≤ length s → Says s t → Proper t
  of-said (a_head h) l (a, r) = head-proper s h r (omega arith)
  of-said (a_movement m) l (a, b, r) = movement-proper s m r (omega arith)
  of-said strange l z = absurd z

  -- what a record says can be written
  pub sound : (t : Thing) → read_record s ≡ said t → (t ≡ strange → ⊥) → Proper t
  sound t e n = of-said t (long t e n) (says t e n)

  -- .. and if it has not too many bytes either, it has 130
  pub whole : (t : Thing) → length s ≤ 130 → read_record s ≡ said t → (t ≡ strange → ⊥) → length s ≡ 130
  whole t l e n = omega (arith, long t e n)
