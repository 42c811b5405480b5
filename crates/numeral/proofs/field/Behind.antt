-- A field that begins with a run of digits and goes on behind another byte. Assumes nothing.
use Rattle.std.proofs.Common.{◌≡◌, ℕ, ◌+◌, ◌<◌, true, false, eqb, List, [], ◌∷◌, ◌++◌, length, get_or, drop, sym, refl, ap, ◌∙◌, add-one, take-append-drop, drop-cons, drop-drop, ne_eqb, eqb-true}
use Rattle.base.specs.Pick.{pick}
use Rattle.base.specs.Seek.{all, starts, seek}
use Rattle.base.proofs.Cases.{by-test}
use Rattle.base.proofs.Seek.{never, all_head, all_tail, seek-next}
use Rattle.paper.specs.Bytes.{is_digit, space, field_of}
use Rattle.numeral.specs.field.Digits.{run}
use Rattle.numeral.proofs.field.Front.{run-digits, run_is}
use Rattle.numeral.proofs.field.Number.{run-over}

-- a byte that is no space belongs to the field
field-cons : (x : ℕ) (s : List ℕ) → eqb x 32 ≡ false → field_of (x ∷ s) ≡ x ∷ field_of s
unfolding seek starts pick
field-cons x s e = simp e

field-over : (d s : List ℕ) → all is_digit d ≡ true → field_of (d ++ s) ≡ d ++ field_of s
unfolding is_digit pick
field-over [] s h = refl
field-over (x ∷ d) s h =
    field-cons x (d ++ s) (by-test (eqb x 32) (λ e. never (sym (all_head is_digit x d h) ∙ ap is_digit (eqb-true x 32 e))) (λ e. e))
    ∙ ap (λ (l : List ℕ). x ∷ l) (field-over d s (all_tail is_digit x d h))

-- a run that ends at e, before a byte b that is no space
module _ (s : List ℕ) (at most e v b : ℕ) (h : e ≡ at + length (run most (drop at s))) (l : e < length s) (f : get_or s e 0 ≡ b) (n : b ≡ 32 → ⊥) where
  rest-is : drop e s ≡ b ∷ drop (e + 1) s
  rest-is = rw (add-one, ← f) (drop-cons s e 0 l)

  pub behind-field : field_of (drop at s) ≡ run most (drop at s) ++ (b ∷ field_of (drop (e + 1) s))
  behind-field =
      let d : drop (length (run most (drop at s))) (drop at s) ≡ b ∷ drop (e + 1) s = drop-drop (length (run most (drop at s))) at s ∙ rw (← h) rest-is in
      let t : drop at s ≡ run most (drop at s) ++ (b ∷ drop (e + 1) s) = sym (take-append-drop (length (run most (drop at s))) (drop at s)) ∙ rw (← (run_is most (drop at s)), d) in
      ap (λ (u : List ℕ). field_of u) t
      ∙ field-over (run most (drop at s)) (b ∷ drop (e + 1) s) (run-digits most (drop at s))
      ∙ ap (λ (u : List ℕ). run most (drop at s) ++ u) (field-cons b (drop (e + 1) s) (ne_eqb b 32 n))

  pub behind-end : at + seek space (drop at s) ≡ e + 1 + seek space (drop (e + 1) s)
  unfolding is_digit starts pick
  behind-end = run-over s at most e v h 32 refl ∙ seek-next space s e l (rw rest-is (simp (ne_eqb b 32 n)))
