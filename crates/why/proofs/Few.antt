-- A field of the first line that has too few bytes breaks the first of its rules, which is that of its form. Assumes nothing.
use mathlib.Core.Path.{◌≡◌}
use mathlib.Core.Bool.{false}
use mathlib.Core.List.{List, ◌∷◌}
use Prim.Native.Nat.{ℕ, ◌<◌}
use native.Mathlib.Omega.{arith}
use lib.ListN.{length}
use borrow.Author.Tests.{lt-ltb, ne_eqb}
use Rattle.base.specs.Pick.{pick}
use Rattle.base.proofs.Cases.{pick_true, pick-false}
use Rattle.why.specs.Rule.{Rule, rule, broke, first_broken}
use Rattle.why.specs.Forms.{are_digits, are_text, is_long, is_day}
use Rattle.why.specs.Fields.{day_rules, name_rules}

pub few-digits : (n : ℕ) (rs : List Rule) (t : List ℕ) → length t < n → first_broken (rule 4 40 (are_digits n n) ∷ rs) t ≡ broke (rule 4 40 (are_digits n n))
unfolding first_broken are_digits
few-digits n rs t l = pick-false _ _ (pick_true _ _ (lt-ltb (length t) n l))

pub few-day : (t : List ℕ) → length t < 6 → first_broken day_rules t ≡ broke (rule 4 40 (is_day false))
unfolding first_broken is_day is_long are_digits pick
few-day t l = pick-false _ _ (pick_true _ _ (lt-ltb (length t) 6 l))

pub few-name : (n : ℕ) (t : List ℕ) → length t < n → first_broken (name_rules n) t ≡ broke (rule 4 40 (are_text n))
unfolding first_broken are_text
few-name n t l = pick-false _ _ (pick-false _ _ (ne_eqb (length t) n (λ e. absurd (omega arith))))
