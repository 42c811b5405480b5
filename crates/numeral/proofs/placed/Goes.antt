-- A line that says something, step by step: its fields are there, and so are the spaces between them. Assumes nothing.
use Rattle.std.proofs.Common.{◌≡◌, ℕ, ◌+◌, ◌<◌, true, Result, Ok, List, length, drop, sym, refl, ◌∙◌, arith, drop_of_length-le}
use Rattle.base.specs.Seek.{seek}
use Rattle.base.proofs.Cases.{by-lt}
use Rattle.base.proofs.Seek.{never}
use Rattle.refusal.specs.declared.Refusal.{Refusal}
use Rattle.paper.specs.Read.{Field, value, fault}
use Rattle.paper.specs.Bytes.{space, field_of}
use Rattle.paper.specs.Entries.{Said, Listed, got, no, counted, on_field, field, gap}
use Rattle.paper.specs.ItemLine.{is_value}
use Rattle.numeral.specs.field.At.{found, field_at}
use Rattle.numeral.specs.field.Kept.{keeping, nothing}
use Rattle.numeral.specs.field.Told.{passed}
use Rattle.numeral.proofs.field.Steps.{found-end, found-field, step-gap}
use Rattle.numeral.proofs.field.Kept.{was-found, kept-says}
use Rattle.numeral.specs.placed.Known.{There}
use Rattle.numeral.proofs.placed.Parts.{some-value, at_value}
use Rattle.numeral.specs.placed.Said.{is_said}

-- a refusal says nothing
pub not-said : {Z : Type 0} {P : Type 0} (n at : ℕ) (r : Said Z) → r ≡ no n at → is_said r ≡ true → P
unfolding is_said
not-said n at r e h = never (sym (rw e at h))

pub said-as : {Z : Type 0} (r q : Said Z) → is_said r ≡ true → r ≡ q → is_said q ≡ true
said-as r q h e = rw e at h

-- a line is said or not, however its warnings are kept
pub said-counted : (x : Listed) → is_said (counted x) ≡ is_said x
unfolding counted is_said
said-counted (got t) = refl
said-counted (no n off) = refl

-- ---- a field, and the space behind it

pub on_value : {Z : Type 0} {A : Type 0} (at : ℕ) (x : Field A) (k : A → Said Z) → is_said (on_field at x k) ≡ true → is_value x ≡ true
unfolding on_field is_value
on_value at (value v) k h = refl
on_value at (fault n) k h = not-said n at (no n at) refl h

module _ {Z : Type 0} (s : List ℕ) (e : ℕ) (k : ℕ → List ℕ → Said Z) (h : is_said (gap e (drop e s) k) ≡ true) where
  pub gap-inside : e < length s
  unfolding gap
  gap-inside = by-lt e (length s) (λ l. l) (λ l. not-said 4 e (gap e (drop e s) k) (rw (drop_of_length-le s l)) h)

  pub gap-goes : gap e (drop e s) k ≡ k (e + 1) (drop (e + 1) s)
  gap-goes = sym (step-gap (k (e + 1) (drop (e + 1) s)) s e gap-inside k refl)

module _ {A : Type 0} (read : List ℕ → Field A) (s : List ℕ) (at : ℕ) where
  pub field-value : {Z : Type 0} (k : A → ℕ → List ℕ → Said Z) → is_said (field read at (drop at s) k) ≡ true → is_value (read (field_of (drop at s))) ≡ true
  unfolding field
  field-value k h = on_value at (read (field_of (drop at s))) _ h

  -- a space and the rest of the reading (k) follow
  module _ {Z : Type 0} (k : A → ℕ → List ℕ → Said Z) (h : is_said (field read at (drop at s) (λ v a1 s1. gap a1 s1 λ a2 s2. k v a2 s2)) ≡ true) where
    module _ (v : A) (e : ℕ) (g : found v e ≡ field_at read s at) where
      goes : field read at (drop at s) (λ v a1 s1. gap a1 s1 λ a2 s2. k v a2 s2) ≡ gap e (drop e s) (λ a2 s2. k v a2 s2)
      goes = found-field read s at v e g (λ v a1 s1. gap a1 s1 λ a2 s2. k v a2 s2)

      pub next-inside : e < length s
      next-inside = gap-inside s e (λ a2 s2. k v a2 s2) (said-as _ _ h goes)

      pub next-goes : field read at (drop at s) (λ v a1 s1. gap a1 s1 λ a2 s2. k v a2 s2) ≡ k v (e + 1) (drop (e + 1) s)
      next-goes = goes ∙ gap-goes s e (λ a2 s2. k v a2 s2) (said-as _ _ h goes)

    pub next-there : There read s at
    next-there =
        let y = field-value (λ v a1 s1. gap a1 s1 λ a2 s2. k v a2 s2) h in
        let x = some-value (read (field_of (drop at s))) y in
        record { says = y; on = next-inside x.0 (at + seek space (drop at s)) (at_value read s at x.0 x.0 (at + seek space (drop at s)) x.1 refl refl) }

-- ---- a field that was judged, with the line going on behind it: n is what the judge answered

pub passed-there : {A : Type 0} (read : List ℕ → Field A) (s : List ℕ) (at : ℕ) (n : Result ℕ Refusal) → passed n ≡ keeping nothing (field_at read s at) → (e : ℕ) → n ≡ Ok e → e < length s → There read s at
passed-there read s at n g e f l =
    let q : found tt e ≡ keeping nothing (field_at read s at) = rw f at g in
    let v = was-found nothing (field_at read s at) tt e q in
    record { says = kept-says nothing read s at tt e q; on = omega (arith, found-end read s at v.0 e v.1) }
