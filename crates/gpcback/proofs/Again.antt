-- A record that is read is spelled as it stood, but for a minus before zero, and what is kept stays. Assumes nothing.
use mathlib.Core.Path.{◌≡◌, refl, sym, ap, ◌∙◌}
use mathlib.Core.Bool.{true, false}
use mathlib.Core.List.{List, [], ◌∷◌}
use Prim.Native.Nat.{ℕ, ◌+◌, ◌≤◌}
use native.Mathlib.Omega.{arith}
use lib.Dec.{eqb}
use lib.ListN.{length, take, drop, length-drop, take-append-drop}
use lib.Seq.{take_all}
use borrow.Author.Tests.{eqb-true}
use Rattle.base.specs.Seek.{starts}
use Rattle.base.proofs.Cases.{pick_true, pick-false, pick-both}
use Rattle.base.proofs.Seek.{never}
use Rattle.paper.specs.Bytes.{bytes}
use Rattle.internal.proofs.Laws.{spelled}
use Rattle.internal.proofs.Numbers.{digits-spelled}
use Rattle.gpc.specs.Parts.{slice}
use Rattle.gpc.specs.Signed.{Signed, balance_plus, turnover_plus, spell_signed}
use Rattle.gpc.specs.Records.{Head, Movement, Thing, a_head, a_movement, strange, said, crlf, read_record, spell_head, spell_movement, spell}
use Rattle.gpc.specs.Canonical.{plain_sign, plain_record, kept_in}
use Rattle.gpcback.specs.Proper.{ProperHead, ProperMovement, Proper}
use Rattle.gpcback.proofs.Segments.{joined, slices-joined}
use Rattle.turnover.proofs.Laws.{signed-length}
use Rattle.gpcback.proofs.Fields.{digits-slice, sign-slice}
use Rattle.gpcback.proofs.Heads.{head_sizes, head_with, old_of, new_of, debit_of, credit_of, head_parts, head-joined, head-starts, sized-with, head-part}
use Rattle.gpcback.proofs.Movements.{movement_sizes, movement_parts, movement-joined, movement-no-head, movement-part}
use Rattle.gpcback.proofs.ReadFields.{slice-length, SignedSaid}
use Rattle.gpcback.proofs.Sound.{HeadSaid, MovementSaid, Says, ended, says, sound, whole}
use Rattle.gpcback.proofs.Plain.{plain-segment}
use Rattle.gpcback.proofs.Signs.{code-spelled, sign-plain}

-- what a text begins with
starts-front : (ps s : List ℕ) → starts ps s ≡ true → take (length ps) s ≡ ps
unfolding starts
starts-front [] s e = refl
starts-front (p ∷ ps) [] e = never (sym e)
starts-front (p ∷ ps) (x ∷ s) e =
    let b = pick-both (eqb x p) (starts ps s) e in
    rw (eqb-true x p b.0, starts-front ps s b.1)

-- ---- a head's balances and turnovers made plain, one after the other

plain_head : List ℕ → List ℕ
plain_head s = plain_sign turnover_plus 90 (plain_sign turnover_plus 75 (plain_sign balance_plus 60 (plain_sign balance_plus 45 s)))

module _ (h : Head) (p : ProperHead h) (o n d c : List ℕ) (lo : length o ≡ 15) (ln : length n ≡ 15) (ld : length d ≡ 15) (lc : length c ≡ 15) where
  head_plain : plain_sign balance_plus 0 o ≡ old_of h → plain_sign balance_plus 0 n ≡ new_of h
      → plain_sign turnover_plus 0 d ≡ debit_of h → plain_sign turnover_plus 0 c ≡ credit_of h
      → plain_head (joined (head_with h o n d c) crlf) ≡ joined (head_parts h) crlf
  unfolding plain_head
  head_plain eo en ed ec =
      let mo = signed-length balance_plus h.old in
      let mn = signed-length balance_plus h.new in
      let md = signed-length turnover_plus h.debit in
      ap (λ (s : List ℕ). plain_sign turnover_plus 90 (plain_sign turnover_plus 75 (plain_sign balance_plus 60 s)))
      (plain-segment balance_plus crlf head_sizes (head_with h o n d c) (sized-with h p o n d c lo ln ld lc) 3 refl (old_of h) eo)
      ∙ ap (λ (s : List ℕ). plain_sign turnover_plus 90 (plain_sign turnover_plus 75 s))
      (plain-segment balance_plus crlf head_sizes (head_with h (old_of h) n d c) (sized-with h p (old_of h) n d c mo ln ld lc) 4 refl (new_of h) en)
      ∙ ap (λ (s : List ℕ). plain_sign turnover_plus 90 s)
      (plain-segment turnover_plus crlf head_sizes (head_with h (old_of h) (new_of h) d c)
      (sized-with h p (old_of h) (new_of h) d c mo mn ld lc) 5 refl (debit_of h) ed)
      ∙ plain-segment turnover_plus crlf head_sizes (head_with h (old_of h) (new_of h) (debit_of h) c)
      (sized-with h p (old_of h) (new_of h) (debit_of h) c mo mn md lc) 6 refl (credit_of h) ec

-- ---- a record of 130 bytes that ends with CR LF

module _ (s : List ℕ) (long : length s ≡ 130) (end : starts crlf (drop 128 s) ≡ true) where
  end_is : drop 128 s ≡ crlf
  end_is = sym (take_all 2 (drop 128 s) (omega (arith, length-drop 128 s))) ∙ starts-front crlf (drop 128 s) end

  signed-again : (plus at : ℕ) (x : Signed) → at + 15 ≤ 130 → SignedSaid plus (slice at 14 s) (slice (at + 14) 1 s) x
      → plain_sign plus 0 (slice at 15 s) ≡ spell_signed plus x
  signed-again plus at x l h =
      let one : length (drop 14 (slice at 15 s)) ≡ 1 = omega (arith, length-drop 14 (slice at 15 s), slice-length at 15 s (omega arith)) in
      rw (take-append-drop 14 (slice at 15 s)) at
      (sign-plain plus (take 14 (slice at 15 s)) (drop 14 (slice at 15 s)) x (rw (digits-slice at s, sign-slice at s) at h) one)

  module _ (h : Head) (p : ProperHead h) (first : starts (bytes "074") s ≡ true) (r : HeadSaid s h) where
    head-cut : joined (head_with h (slice 45 15 s) (slice 60 15 s) (slice 75 15 s) (slice 90 15 s)) crlf ≡ s
    head-cut =
        rw (starts-front (bytes "074") s first, ← (spelled (slice 3 16 s) h.account r.account), r.before, r.behind, end_is) at
        (slices-joined 0 head_sizes s)

    head-made-plain : plain_head s ≡ joined (head_parts h) crlf
    head-made-plain =
        ap plain_head (sym head-cut)
        ∙ head_plain h p (slice 45 15 s) (slice 60 15 s) (slice 75 15 s) (slice 90 15 s)
        (slice-length 45 15 s (omega arith))
        (slice-length 60 15 s (omega arith))
        (slice-length 75 15 s (omega arith))
        (slice-length 90 15 s (omega arith))
        (signed-again balance_plus 45 h.old (omega arith) r.old)
        (signed-again balance_plus 60 h.new (omega arith) r.new)
        (signed-again turnover_plus 75 h.debit (omega arith) r.debit)
        (signed-again turnover_plus 90 h.credit (omega arith) r.credit)

    head-again : spell_head h ≡ plain_record s
    unfolding plain_record plain_head
    head-again = head-joined h ∙ sym (pick_true _ s first ∙ head-made-plain)

    head-keeps : kept_in (spell_head h) ≡ kept_in s
    unfolding kept_in
    head-keeps =
        pick_true _ _ (head-starts h)
        ∙ rw (head-part h p 2 (omega arith), head-part h p 7 (omega arith), r.before, r.behind) (sym (pick_true _ _ first))

  module _ (m : Movement) (p : ProperMovement m) (other : starts (bytes "074") s ≡ false) (first : starts (bytes "075") s ≡ true)
      (r : MovementSaid s m) where
    movement-cut : joined (movement_parts m) crlf ≡ s
    movement-cut =
        rw (
          starts-front (bytes "075") s first,
          ← (spelled (slice 3 16 s) m.account r.account),
          ← (spelled (slice 19 16 s) m.other r.other),
          r.before,
          ← (digits-spelled 12 (slice 48 12 s) m.amount r.amount),
          ← (code-spelled (slice 60 1 s) m.code (slice-length 60 1 s (omega arith)) r.code),
          ← (digits-spelled 10 (slice 61 10 s) m.variable r.variable),
          r.behind,
          end_is,
        ) at
        (slices-joined 0 movement_sizes s)

    movement-again : spell_movement m ≡ plain_record s
    unfolding plain_record
    movement-again = movement-joined m ∙ movement-cut ∙ sym (pick-false _ s other)

    movement-keeps : kept_in (spell_movement m) ≡ kept_in s
    unfolding kept_in
    movement-keeps =
        pick-false _ _ (movement-no-head m)
        ∙ rw (movement-part m p 3 (omega arith), movement-part m p 7 (omega arith), r.before, r.behind) (sym (pick-false _ _ other))

  of-said : (t : Thing) → Proper t → Says s t → (spell t ≡ plain_record s) × (kept_in (spell t) ≡ kept_in s)
  unfolding spell
  of-said (a_head h) p (first, r) = (head-again h p first r, head-keeps h p first r)
  of-said (a_movement m) p (other, first, r) = (movement-again m p other first r, movement-keeps m p other first r)
  of-said strange p z = absurd z

-- ---- a record that is read as the thing t

module _ (s : List ℕ) (t : Thing) (short : length s ≤ 130) (e : read_record s ≡ said t) (n : t ≡ strange → ⊥) where
  both : (spell t ≡ plain_record s) × (kept_in (spell t) ≡ kept_in s)
  both = of-said s (whole s t short e n) (ended s t e n) t (sound s t e n) (says s t e n)

  pub again : spell t ≡ plain_record s
  again = both.0

  pub kept : kept_in (spell t) ≡ kept_in s
  kept = both.1
