-- A part whose bytes the sheet takes, or does not. Assumes nothing.
use mathlib.Core.Path.{◌≡◌, refl, sym, ◌∙◌}
use mathlib.Core.Bool.{Bool, true, false}
use mathlib.Core.List.{List}
use Prim.Native.Nat.{ℕ}
use lib.Dec.{ltb}
use Rattle.base.specs.Pick.{pick}
use Rattle.base.proofs.Cases.{either, pick_true, pick-false}
use Rattle.sheet.specs.declared.Style.{Style}
use Rattle.paper.specs.Bytes.{null, mark}
use Rattle.paper.specs.Texts.{lacks, taken, words_carried, part_carried}

module _ (y : Style) (i : ℕ) (p : List ℕ) (h t : Bool) (place : h ≡ pick (ltb i y.most) true (null p)) where
  -- with a place, what is asked of its words is that they hold no ` NP:` where names are
  pub place-words : taken y p ≡ true → h ≡ true → t ≡ pick y.names (lacks mark p) true → t ≡ part_carried y i p
  unfolding part_carried words_carried
  place-words e f g =
      g ∙ sym (pick_true _ _ (sym place ∙ f) ∙ either (λ r. r ≡ pick y.names (lacks mark p) true) (pick y.names (lacks mark p) true) (λ q. e ∙ sym q) (λ q. sym q))

  pub no_place : h ≡ false → false ≡ part_carried y i p
  unfolding part_carried
  no_place f = sym (pick-false _ _ (sym place ∙ f))

-- bytes that the sheet does not take are not carried
pub untaken : (y : Style) (i : ℕ) (p : List ℕ) → taken y p ≡ false → part_carried y i p ≡ false
unfolding part_carried words_carried
untaken y i p e =
    either (λ r. r ≡ false) (pick (ltb i y.most) true (null p))
    (λ _. either (λ r. r ≡ false) (pick y.names (lacks mark p) true) (λ _. e) (λ _. refl)) (λ _. refl)

pub ruleset places = (place-words, no_place)
