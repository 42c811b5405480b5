-- What it is that a line's fault is told truly: the rule that is named is broken by the bytes that are found, and nothing before them in the line
-- breaks one. Document 02, W-205. Assumes nothing.
use Rattle.std.specs.Prelude.{◌≡◌, List, [], ◌∷◌, ℕ, ◌+◌, length, take, drop}
use Rattle.sheet.specs.declared.Sheet.{Sheet}
use Rattle.paper.specs.Entries.{Said, got, no}
use Rattle.paper.specs.Spells.{Context}
use Rattle.why.specs.Rule.{Rule, kept, broke, first_broken}
use Rattle.why.specs.Names.{Name}
use Rattle.why.specs.Fields.{rules_of}
use Rattle.why.specs.Walk.{by_rule, by_form, Walked, passed, stopped}

-- the line w, on a sheet, on a day, in its context
module _ (sh : Sheet) (today : ℕ) (c : Context) (w : List ℕ) where
  -- from one offset of the line to another there are fields that keep all their rules, and bytes that divide them
  pub data Clear (from : ℕ) : ℕ → Type 0 where
    begins : Clear from from
    keeps : {at : ℕ} (n : ℕ) (name : Name) → Clear from at → first_broken (rules_of sh today c w name) (take n (drop at w)) ≡ kept → Clear from (at + n)
    divides : {at : ℕ} (x : ℕ) (s : List ℕ) → Clear from at → drop at w ≡ x ∷ s → Clear from (at + 1)

  -- the form of the line is broken, by the cause: it ends where a divider is missing (41); something follows where nothing may (42); a line that
  -- closes goes on otherwise (43)
  pub data Malformed : ℕ → ℕ → ℕ → Type 0 where
    missing : {at : ℕ} → drop at w ≡ [] → Malformed 41 at 0
    surplus : {at : ℕ} (x : ℕ) (s : List ℕ) → drop at w ≡ x ∷ s → Malformed 42 at (length (x ∷ s))
    closing : {at n : ℕ} → length (drop at w) ≡ n → Malformed 43 at n

  -- What the line says and what its walk finds agree: where it is read the walk passes; where it is refused, with the number and at the offset
  -- that the walk gives, that is by a rule of the field there, the first that the bytes found break, or by the line's form; and from `from` on
  -- all before it is clear.
  pub data Told (from : ℕ) {A : Type 0} : Said A → Walked → Type 0 where
    fine : {x : A} → Told from (got x) passed
    by-rule : {r : Rule} {n at len : ℕ} {name : Name} → r.number ≡ n → Clear from at → first_broken (rules_of sh today c w name) (take len (drop at w)) ≡ broke r
        → Told from (no n at) (stopped (by_rule r at len name))
    by-form : {why at len : ℕ} {name : Name} → Clear from at → Malformed why at len → Told from (no 4 at) (stopped (by_form why at len name))
