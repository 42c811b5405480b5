-- A field that is neither digits alone nor begins with a prefix and its dash is refused with 4. Assumes nothing.
use mathlib.Core.Path.{◌≡◌, refl, sym, ap, ◌∙◌}
use mathlib.Core.Bool.{Bool, true, false}
use mathlib.Core.List.{List, ◌∷◌, ◌++◌, append_assoc}
use Prim.Native.Nat.{ℕ, ◌+◌, ◌-◌, ◌<◌}
use native.Mathlib.Omega.{arith}
use lib.Dec.{ltb}
use lib.ListN.{length, get_or, take, drop, take-append-drop, length-append}
use borrow.Author.Tests.{ltb-true, le-ltb, eq-eqb}
use Rattle.base.specs.Pick.{pick}
use Rattle.base.specs.Seek.{seek, before}
use Rattle.base.proofs.Cases.{by-test, pick-false}
use Rattle.base.proofs.Seek.{never, all_append}
use Rattle.paper.specs.Read.{Field, value, fault, given}
use Rattle.paper.specs.Bytes.{is_digit, dash, space, field_of, null}
use Rattle.paper.specs.Numerals.{digits}
use Rattle.paper.specs.Accounts.{Account, two_parts, one_part, read_account}
use Rattle.numeral.proofs.Sound.{digits-plain, digits-least, digits-most, digits-fault, digits-reads}
use Rattle.numeral.specs.field.At.{missed, ending, field_at}
use Rattle.numeral.specs.field.Digits.{run}
use Rattle.numeral.proofs.field.Front.{run-other, split-byte, part-byte}
use Rattle.numeral.proofs.field.Number.{number-other}
use Rattle.account.specs.at.Parts.{dashed}
use Rattle.account.proofs.at.Digits.{recount}

-- a number that is none, or is read on to 4, gives 4
four : (x : Field ℕ) → ((n : ℕ) → x ≡ fault n → n ≡ 4) → (k : ℕ → Field Account) → ((v : ℕ) → x ≡ value v → k v ≡ fault 4) → given x k ≡ fault 4
unfolding given
four (value v) f k h = h v refl
four (fault n) f k h = ap fault (f n refl)

digits-four : (least most : ℕ) (s : List ℕ) (k : ℕ → Field Account) → ((v : ℕ) → digits least most s ≡ value v → k v ≡ fault 4) → given (digits least most s) k ≡ fault 4
digits-four least most s k h = four (digits least most s) (digits-fault least most s) k h

-- ---- by the bytes of the field f

module _ (f : List ℕ) (none : (v : ℕ) → digits 0 16 f ≡ value v → ⊥) where
  abbrev front : List ℕ
  front = take (length f - 10) f

  abbrev back : List ℕ
  back = drop (length f - 10) f

  no_both : (p q : ℕ) → digits 1 6 front ≡ value p → digits 10 10 back ≡ value q → ⊥
  no_both p q x y =
      let v =
      digits-reads 0 16 f
      (rw (take-append-drop (length f - 10) f) at (all_append is_digit front back (digits-plain 1 6 front p x) (digits-plain 10 10 back q y)))
      (omega arith)
      (omega (arith, digits-most 1 6 front p x, digits-most 10 10 back q y, ap length (take-append-drop (length f - 10) f), length-append front back)) in
      none v.0 v.1

  no-parts : two_parts 10 front back ≡ fault 4
  unfolding two_parts
  no-parts = digits-four 1 6 front _ (λ p x. digits-four 10 10 back _ (λ q y. absurd (no_both p q x y)))

  no-base : (least : ℕ) → one_part least f ≡ fault 4
  unfolding one_part
  no-base least = digits-four least 10 f _ (λ v x. absurd (none v (recount least 10 0 16 f v x (omega arith) (omega (arith, digits-most least 10 f v x)))))

  no-account : (seek dash f < length f → (v : ℕ) → digits 1 6 (before dash f) ≡ value v → ⊥) → (joined : Bool) (least : ℕ) → read_account joined least f ≡ fault 4
  unfolding read_account two_parts pick
  no-account undashed joined least =
      by-test (ltb (seek dash f) (length f))
      (λ t. simp t (digits-four 1 6 (before dash f) _ (λ v x. absurd (undashed (ltb-true _ _ t) v x))))
      (λ t. by-test (pick joined (ltb 10 (length f)) false) (λ u. simp (t, u) no-parts) (λ u. simp (t, u) (no-base least)))

-- ---- at its place: its first digits end at e, where the field does not (t) and no dash follows a prefix (u)

module _ (s : List ℕ) (at e v : ℕ) (h : e ≡ at + length (run 16 (drop at s))) where
  is-dashed : seek dash (field_of (drop at s)) < length (field_of (drop at s)) → (p : ℕ) → digits 1 6 (before dash (field_of (drop at s))) ≡ value p → dashed s at e ≡ true
  unfolding dashed is_digit pick
  is-dashed l p x =
      let f : List ℕ = field_of (drop at s) in
      let b : List ℕ = before dash f in
      let rest : List ℕ = drop (seek space (drop at s)) (drop at s) in
      let q : drop at s ≡ b ++ (45 ∷ (drop (seek dash f + 1) f ++ rest)) =
      sym (take-append-drop (seek space (drop at s)) (drop at s)) ∙ (ap (λ (w : List ℕ). w ++ rest) (split-byte 45 f l) ∙ append_assoc b (45 ∷ drop (seek dash f + 1) f) rest) in
      let i : run 16 (drop at s) ≡ b = ap (λ (w : List ℕ). run 16 w) q ∙ run-other 16 b 45 _ (digits-plain 1 6 b p x) refl (omega (arith, digits-most 1 6 b p x)) in
      let o : e ≡ at + length b = h ∙ ap (λ (w : List ℕ). at + length w) i in
      pick-false _ _ (le-ltb (e - at) 1 (omega (arith, digits-least 1 6 b p x)))
      ∙ (pick-false _ _ (le-ltb 6 (e - at) (omega (arith, digits-most 1 6 b p x))) ∙ eq-eqb (get_or s e 0) 45 (rw o (part-byte s at b 45 _ q)))

  module _ (t : Bool) (k : t ≡ null (field_of (drop e s))) (n : t ≡ false) (u : Bool) (d : u ≡ dashed s at e) (joined : Bool) (least : ℕ) where
    pub other-account : u ≡ false → missed 4 ≡ field_at (read_account joined least) s at
    unfolding field_at ending
    other-account y =
        rw (no-account (field_of (drop at s)) (number-other s at 0 16 e v h t k n) (λ l p x. never (sym (is-dashed l p x) ∙ (sym d ∙ y))) joined least)
