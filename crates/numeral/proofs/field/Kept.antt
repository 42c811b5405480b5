-- A field of the line s that is judged, for whoever reads on: n is what the judge answered, f what is kept of the value. Assumes nothing.
use Rattle.std.proofs.Common.{◌≡◌, ℕ, ◌≤◌, true, Result, Ok, Err, List, length, drop, sym, ap, ◌∙◌, arith}
use Rattle.refusal.specs.declared.Refusal.{Refusal}
use Rattle.refusal.specs.Numbers.{number_of}
use Rattle.paper.specs.Read.{Field}
use Rattle.paper.specs.Bytes.{field_of}
use Rattle.paper.specs.ItemLine.{is_value}
use Rattle.paper.specs.Entries.{Said, no, field}
use Rattle.numeral.specs.field.At.{At, found, missed, field_at}
use Rattle.numeral.proofs.field.Steps.{found-value, found_within, found-field, missed-field}
use Rattle.numeral.specs.field.Kept.{keeping, nothing}
use Rattle.numeral.specs.field.Told.{passed}

-- ---- what was there, where this is kept

module _ {A B : Type 0} (f : A → B) where
  pub was-found : (x : At A) (w : B) (e : ℕ) → found w e ≡ keeping f x → (v : A) × (found v e ≡ x) × (w ≡ f v)
  unfolding keeping
  was-found (found v d) w e q = (v, ap (found v) cc, cc)
  was-found (missed n) w e q = absurd (let z : ◌≡◌ {A = ℕ} 0 1 = cc in omega arith)

  pub was-missed : (x : At A) (n : ℕ) → missed n ≡ keeping f x → missed n ≡ x
  unfolding keeping
  was-missed (found v d) n q = absurd (let z : ◌≡◌ {A = ℕ} 0 1 = cc in omega arith)
  was-missed (missed m) n q = cc

module _ {A B : Type 0} (f : A → B) (read : List ℕ → Field A) (s : List ℕ) (at : ℕ) where
  module _ (w : B) (e : ℕ) (g : found w e ≡ keeping f (field_at read s at)) where
    pub kept-within : at ≤ length s → e ≤ length s
    kept-within l = let v = was-found f (field_at read s at) w e g in found_within read s at v.0 e v.1 l

    pub kept-says : is_value (read (field_of (drop at s))) ≡ true
    unfolding is_value
    kept-says = let v = was-found f (field_at read s at) w e g in rw (found-value read s at v.0 e v.1)

    -- k is the rest of the reading
    pub kept_field : {Z : Type 0} (k : B → ℕ → List ℕ → Said Z) → field read at (drop at s) (λ v a t. k (f v) a t) ≡ k w e (drop e s)
    kept_field k =
        let v = was-found f (field_at read s at) w e g in
        found-field read s at v.0 e v.1 (λ v a t. k (f v) a t) ∙ ap (λ (b : B). k b e (drop e s)) (sym v.2)

  pub missed-kept : {Z : Type 0} (n : ℕ) → missed n ≡ keeping f (field_at read s at) → (k : A → ℕ → List ℕ → Said Z) → field read at (drop at s) k ≡ no n at
  missed-kept n g k = missed-field read s at n (was-missed f (field_at read s at) n g) k

-- ---- a field of which nothing is kept

module _ {A : Type 0} (read : List ℕ → Field A) (s : List ℕ) (at : ℕ) (n : Result ℕ Refusal) (g : passed n ≡ keeping nothing (field_at read s at)) where
  module _ (e : ℕ) (f : n ≡ Ok e) where
    pub passed-within : at ≤ length s → e ≤ length s
    passed-within l = kept-within nothing read s at tt e (rw f at g) l

    pub passed-field : {Z : Type 0} (k : ℕ → List ℕ → Said Z) → field read at (drop at s) (λ v a t. k a t) ≡ k e (drop e s)
    passed-field k = kept_field nothing read s at tt e (rw f at g) (λ v a t. k a t)

  pub refused-field : {Z : Type 0} (c : Refusal) → n ≡ Err c → (k : A → ℕ → List ℕ → Said Z) → field read at (drop at s) k ≡ no (number_of c) at
  refused-field c f k = missed-kept nothing read s at (number_of c) (rw f at g) k
