-- A stage of the walk over an item's line that says something, for `search`: a field and the space behind it. Assumes nothing.
use mathlib.Core.Path.{◌≡◌, refl, sym, ◌∙◌}
use mathlib.Core.Bool.{true}
use mathlib.Core.List.{List}
use Prim.Native.Nat.{ℕ, ◌+◌, ◌≤◌, ◌<◌}
use native.Mathlib.Omega.{arith}
use mir.Val.{Fits}
use mir.Syntax.{w64}
use lib.ListN.{length, drop}
use Rattle.paper.specs.Read.{Field}
use Rattle.paper.specs.Entries.{Counted}
use Rattle.numeral.specs.field.At.{found, field_at}
use Rattle.itemline.specs.Walk.{spaced}
use Rattle.numeral.specs.placed.Known.{There}
use Rattle.numeral.specs.placed.Said.{is_said}
use Rattle.numeral.proofs.placed.Goes.{said-as, next-inside, next-goes, next-there}

-- v and e are the field's value and end

module _ {A : Type 0} (read : List ℕ → Field A) (s : List ℕ) (at : ℕ) (k : A → ℕ → List ℕ → Counted) (h : is_said (spaced read at (drop at s) k) ≡ true) where
  pub stage-there : There read s at
  unfolding spaced
  stage-there = next-there read s at k h

  module _ (v : A) (e : ℕ) (g : found v e ≡ field_at read s at) where
    inside : e < length s
    unfolding spaced
    inside = next-inside read s at k h v e g

    to-next : spaced read at (drop at s) k ≡ k v (e + 1) (drop (e + 1) s)
    unfolding spaced
    to-next = next-goes read s at k h v e g

    -- the place behind the space lies in the line, and fits a word
    pub stage-within : e + 1 ≤ length s
    stage-within = omega (arith, inside)

    pub stage-room : length s < 18446744073709551616 → Fits w64 (e + 1)
    stage-room l = omega (arith, inside)

    -- the next stage, n, says something; what it says, r, is what this one says
    pub stage-said : (n : Counted) → n ≡ k v (e + 1) (drop (e + 1) s) → is_said n ≡ true
    stage-said n q = said-as _ _ h (to-next ∙ sym q)

    pub stage_is : (r : Counted) → r ≡ k v (e + 1) (drop (e + 1) s) → r ≡ spaced read at (drop at s) k
    stage_is r q = q ∙ sym to-next

pub ruleset stages = (stage-there, stage-within, stage-room, stage-said, stage_is, refl)
