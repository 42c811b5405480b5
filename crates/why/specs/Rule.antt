-- A field's rules as a list in testing order, and the first that its bytes break. Document 01, "Numbers returned"; document 02, W-205. Assumes
-- nothing.
use Rattle.std.specs.Prelude.{ℕ, Bool, true, List, [], ◌∷◌}
use Rattle.base.specs.Pick.{pick}

-- A rule of a field: the number of the refusal, the cause, which tells apart what shares a number, what is allowed, from `least` to `most` (0
-- where the rule has no such bounds), and which bytes keep it.
pub record Rule : Type 0 where
  pub number : ℕ
  pub cause : ℕ
  pub least : ℕ
  pub most : ℕ
  pub keeps : List ℕ → Bool

-- a rule with bounds
abbrev pub within : ℕ → ℕ → ℕ → ℕ → (List ℕ → Bool) → Rule
within n why a b t = record { number = n; cause = why; least = a; most = b; keeps = t }

-- a rule without
abbrev pub rule : ℕ → ℕ → (List ℕ → Bool) → Rule
rule n why t = within n why 0 0 t

-- the same rule, which bytes that pass the test need not keep
abbrev pub spared : (List ℕ → Bool) → Rule → Rule
spared t r = record { number = r.number; cause = r.cause; least = r.least; most = r.most; keeps = λ s. pick (t s) true (r.keeps s) }

-- bytes keep all rules, or this is the first that they break
pub data Tested : Type 0 where
  kept : Tested
  broke : Rule → Tested

-- "in one field first 4 and then upward": the rules are tested in their order
unfoldable pub first_broken : List Rule → List ℕ → Tested
first_broken [] s = kept
first_broken (r ∷ rs) s = pick (r.keeps s) (first_broken rs s) (broke r)
