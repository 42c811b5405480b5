-- The rules of an account file's number, by what the code asks. Assumes nothing.
use mathlib.Core.Path.{◌≡◌, sym, ap, ◌∙◌}
use mathlib.Core.Bool.{Bool, true, false, not}
use mathlib.Core.List.{List, [], ◌∷◌}
use Prim.Native.Nat.{ℕ, ◌/◌, ◌^◌, ◌≤◌, ◌<◌}
use native.Mathlib.Omega.{arith}
use lib.Dec.{leb}
use borrow.Author.Tests.{le-leb, lt-leb}
use Rattle.std.proofs.Common.{Result, Ok, Err}
use Rattle.refusal.specs.declared.Refusal.{Refusal}
use Rattle.base.specs.Pick.{pick}
use Rattle.base.proofs.Cases.{pick_true, pick-false}
use Rattle.paper.specs.Numerals.{digits}
use Rattle.paper.specs.Batch.{Header}
use Rattle.paper.specs.FileLine.{series, member}
use Rattle.paper.specs.Spells.{after}
use Rattle.numeral.specs.Told.{told}
use Rattle.numeral.proofs.Sound.{digits-sound}
use Rattle.fileline.specs.seen.Bits.{bit, Holds}
use Rattle.why.specs.Rule.{Rule, within, first_broken}
use Rattle.why.specs.Forms.{spelled}
use Rattle.why.specs.Fields.{is_inside, is_unused, number_rules}
use Rattle.fault.specs.field.Ruled.{Ruling, broken, ruling}
use Rattle.fault.proofs.field.Rulings.{is-broken, first-kept, first-broke, all-kept, digits-then, digits-broke, spelled_is}

-- ---- the first three digits

module _ (x : Ruling) (first from to : ℕ) (words l s : List ℕ) (h : Holds words l) (q : series (spelled s) ≡ first) where
  abbrev Judged : List Rule
  Judged = within 9 91 from to (is_inside true from to) ∷ within 9 92 from to (is_unused true l) ∷ []

  inside_is : is_inside true from to s ≡ pick (leb from first) (leb first to) false
  unfolding is_inside pick
  inside_is = rw q

  pub series-below : first < from → x ≡ Err (broken 9 91 from to) → x ≡ ruling (first_broken Judged s)
  series-below l h = first-broke x s (within 9 91 from to (is_inside true from to)) _ (inside_is ∙ pick-false _ _ (lt-leb from first l)) h

  module _ (a : from ≤ first) where
    pub series-above : to < first → x ≡ Err (broken 9 91 from to) → x ≡ ruling (first_broken Judged s)
    series-above l h = first-broke x s (within 9 91 from to (is_inside true from to)) _ (inside_is ∙ (pick_true _ _ (le-leb from first a) ∙ lt-leb first to l)) h

    module _ (b : first ≤ to) (k : Bool) (t : k ≡ bit words first) where
      inside : is_inside true from to s ≡ true
      inside = inside_is ∙ (pick_true _ _ (le-leb from first a) ∙ le-leb first to b)

      unused-is : is_unused true l s ≡ not k
      unfolding is_unused pick
      unused-is = ap not (ap (λ (n : ℕ). member n l) q ∙ sym (t ∙ h first))

      pub series-used : k ≡ true → x ≡ Err (broken 9 92 from to) → x ≡ ruling (first_broken Judged s)
      series-used y i = first-kept x s _ _ inside (first-broke x s (within 9 92 from to (is_unused true l)) _ (unused-is ∙ ap not y) i)

      pub series-free : k ≡ false → x ≡ Ok tt → x ≡ ruling (first_broken Judged s)
      series-free y i = first-kept x s _ _ inside (first-kept x s _ _ (unused-is ∙ ap not y) (all-kept x s i))

pub ruleset judged = (is-broken, series-below, series-above, series-used, series-free)

-- ---- the whole field

module _ (n : Result ℕ Refusal) (s : List ℕ) (t : told n ≡ digits 6 6 s) where
  pub small-series : (v : ℕ) → n ≡ Ok v → v / 1000 < 1000
  small-series v e = let b : v < 10 ^ 6 = digits-sound 6 6 s v (sym t ∙ ap told e) in omega (arith, b)

  module _ (x : Ruling) (interval : Bool) (from to : ℕ) (h : Header) (l : List ℕ) (f : h.from ≡ from) (g : h.to ≡ to) where
    pub number-broke : (m : Refusal) → n ≡ Err m → x ≡ Err (broken 4 40 0 0) → x ≡ ruling (first_broken (number_rules interval (after h l)) s)
    number-broke m e i = digits-broke n s 6 6 t x _ m e i

    pub number-free : (v : ℕ) → n ≡ Ok v → interval ≡ false → x ≡ Ok tt → x ≡ ruling (first_broken (number_rules interval (after h l)) s)
    unfolding is_inside is_unused
    number-free v e o i =
        digits-then n s 6 6 t x _ v e (first-kept x s _ _ (pick-false _ _ o) (first-kept x s _ _ (pick-false _ _ o) (all-kept x s i)))

    pub number-judged : (words : List ℕ) → Holds words l → (v : ℕ) → n ≡ Ok v → interval ≡ true
        → ((m z : List ℕ) → Holds words m → series (spelled z) ≡ v / 1000 → x ≡ ruling (first_broken (within 9 91 from to (is_inside true from to) ∷ within 9 92 from to (is_unused true m) ∷ []) z))
        → x ≡ ruling (first_broken (number_rules interval (after h l)) s)
    number-judged words k v e o i =
        digits-then n s 6 6 t x _ v e (rw (f, g, o) (i l s k (ap series (spelled_is n s 6 6 t v e))))

pub ruleset numbers = (is-broken, number-broke, number-free, number-judged, small-series)
