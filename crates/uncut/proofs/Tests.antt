-- A test that two sheets make, each in its own way: what holds of their answers. Assumes nothing.
use mathlib.Core.Path.{◌≡◌, refl}
use mathlib.Core.Bool.{Bool, true, false}
use Rattle.base.specs.Pick.{pick}
use Rattle.base.proofs.Cases.{either_way}

module _ {A B : Type 0} (P : A → B → Type 0) where
  -- the two tests are the same
  pub same_test : (t u : Bool) {a b : A} {c d : B} → t ≡ u → P a c → P b d → P (pick t a b) (pick u c d)
  same_test t u e p q = rw e (either_way P u p q)

  -- the second one is easier, and what fails the first one is let go
  pub easier : (t u : Bool) {a b : A} {c : B} (d : B) → (t ≡ true → u ≡ true) → P a c → ((r : B) → P b r) → P (pick t a b) (pick u c d)
  unfolding pick
  easier true u d h p q = rw (h refl) p
  easier false u d h p q = q _

  -- a form, known by the test t, that the second one takes besides
  pub besides : (may can t : Bool) {a b : A} {c d : B} → (may ≡ true → can ≡ true) → P a c → P b d → (t ≡ true → P b c)
      → P (pick (pick may t false) a b) (pick (pick can t false) c d)
  unfolding pick
  besides true can t h p q r = rw (h refl) (either_way P t p q)
  besides false true true h p q r = r refl
  besides false true false h p q r = q
  besides false false t h p q r = q
