-- Parts of a line that says something: a field of a known length, a test behind its digits, and the line's end. Assumes nothing.
use Rattle.std.proofs.Common.{◌≡◌, ℕ, ◌+◌, Bool, true, List, [], ◌∷◌, length, take, drop, sym, refl, ap, ◌∙◌, arith, length-drop, take_all}
use Rattle.base.specs.Pick.{pick}
use Rattle.base.specs.Seek.{seek}
use Rattle.base.proofs.Cases.{by-test}
use Rattle.paper.specs.Read.{Field, value, fault, given}
use Rattle.paper.specs.Bytes.{space, field_of}
use Rattle.paper.specs.Numerals.{digits}
use Rattle.paper.specs.Entries.{Said, no, field, line_end}
use Rattle.numeral.proofs.Sound.{digits-least, digits-most}
use Rattle.numeral.proofs.given.Given.{value-fault, value_same, given-value}
use Rattle.numeral.proofs.field.Front.{field-long}
use Rattle.numeral.proofs.field.Steps.{found-field}
use Rattle.numeral.proofs.placed.Parts.{some-value, at_value}
use Rattle.numeral.specs.placed.Said.{is_said}
use Rattle.numeral.proofs.placed.Goes.{not-said, said-as, field-value}

-- a test leaves a value as it is
pub kept : (t : Bool) (c n v : ℕ) → pick t (value n) (fault c) ≡ value v → v ≡ n
unfolding pick
kept t c n v h = by-test t (λ e. sym (value_same n v (simp e at h))) (λ e. value-fault v c (sym (simp e at h)))

pub tested : (t : ℕ → Bool) (c : ℕ) (x : Field ℕ) (v : ℕ) → given x (λ n. pick (t n) (value n) (fault c)) ≡ value v → x ≡ value v
tested t c x v h =
    let y = given-value (λ n. pick (t n) (value n) (fault c)) x v h in
    y.1 ∙ ap (λ (n : ℕ). value n) (sym (kept (t y.0) c y.0 v y.2))

-- a field of n digits has n bytes
module _ (n : ℕ) (s : List ℕ) (v : ℕ) (h : digits n n (field_of s) ≡ value v) where
  pub known-long : seek space s ≡ n
  known-long = omega (arith, field-long s, digits-least n n (field_of s) v h, digits-most n n (field_of s) v h)

  pub known-digits : digits n n (take n s) ≡ value v
  known-digits = rw known-long at h

-- ---- the line's last field

-- nothing follows where a line's end says something
end_none : {Z : Type 0} (at : ℕ) (s : List ℕ) (r : Said Z) → is_said (line_end at s r) ≡ true → s ≡ []
unfolding line_end
end_none at [] r h = refl
end_none at (x ∷ s) r h = not-said 4 at (no 4 at) refl h

module _ {Z : Type 0} {A : Type 0} (read : List ℕ → Field A) (s : List ℕ) (at : ℕ) (k : A → Said Z) (h : is_said (field read at (drop at s) (λ v a1 s1. line_end a1 s1 (k v))) ≡ true) where
  pub last_some : (v : A) × (read (field_of (drop at s)) ≡ value v)
  last_some = some-value (read (field_of (drop at s))) (field-value read s at (λ v a1 s1. line_end a1 s1 (k v)) h)

  abbrev end : ℕ
  end = at + seek space (drop at s)

  goes : field read at (drop at s) (λ v a1 s1. line_end a1 s1 (k v)) ≡ line_end end (drop end s) (k last_some.0)
  goes = found-field read s at last_some.0 end (at_value read s at last_some.0 last_some.0 end last_some.1 refl refl) (λ v a1 s1. line_end a1 s1 (k v))

  none : drop end s ≡ []
  none = end_none end (drop end s) (k last_some.0) (said-as _ _ h goes)

  pub last-is : field read at (drop at s) (λ v a1 s1. line_end a1 s1 (k v)) ≡ k last_some.0
  unfolding line_end
  last-is = goes ∙ rw none

  -- it is all that is left
  pub last-whole : field_of (drop at s) ≡ drop at s
  last-whole = take_all (seek space (drop at s)) (drop at s) (omega (arith, ap length none, length-drop end s, length-drop at s))
