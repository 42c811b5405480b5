-- What is known of a field: P of its value, or Q of its refusal's number; and how that comes through `given`. Assumes nothing.
use Rattle.std.proofs.Common.{◌≡◌, ℕ, refl}
use Rattle.paper.specs.Read.{Field, value, fault, given}

unfoldable pub Says : {A : Type 0} → (A → Type 0) → (ℕ → Type 0) → Field A → Type 0
Says P Q (value a) = P a
Says P Q (fault n) = Q n

module _ {A : Type 0} (P : A → Type 0) (Q : ℕ → Type 0) where
  -- of a value, and of a refusal
  pub of_value : (a : A) → P a → Says P Q (value a)
  unfolding Says
  of_value a p = p

  pub of_fault : (n : ℕ) → Q n → Says P Q (fault n)
  unfolding Says
  of_fault n q = q

  module _ (x : Field A) (h : Says P Q x) where
    pub says-value : (a : A) → x ≡ value a → P a
    unfolding Says
    says-value a e = rw e at h

    pub says-fault : (n : ℕ) → x ≡ fault n → Q n
    unfolding Says
    says-fault n e = rw e at h

  -- from what is known of its two cases
  pub says : (x : Field A) → ((a : A) → x ≡ value a → P a) → ((n : ℕ) → x ≡ fault n → Q n) → Says P Q x
  unfolding Says
  says (value a) p q = p a refl
  says (fault n) p q = q n refl

-- the refusals of a field that is read on are its own and those of what follows
pub says-given : {A B : Type 0} (P : A → Type 0) (R : B → Type 0) (Q : ℕ → Type 0) (x : Field A) (k : A → Field B)
    → Says P Q x → ((a : A) → P a → Says R Q (k a)) → Says R Q (given x k)
unfolding Says given
says-given P R Q (value a) k h f = f a h
says-given P R Q (fault n) k h f = h

-- what follows from it
pub says_map : {A : Type 0} (P R : A → Type 0) (Q S : ℕ → Type 0) (x : Field A)
    → ((a : A) → P a → R a) → ((n : ℕ) → Q n → S n) → Says P Q x → Says R S x
unfolding Says
says_map P R Q S (value a) f g h = f a h
says_map P R Q S (fault n) f g h = g n h
