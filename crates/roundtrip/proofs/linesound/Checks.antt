-- All parts of a message that pass their tests: both ways. Assumes nothing.
use mathlib.Core.Path.{◌≡◌, refl, ◌∙◌}
use mathlib.Core.Bool.{true}
use mathlib.Core.List.{List, [], ◌∷◌}
use Prim.Native.Nat.{ℕ, suc, ◌+◌}
use Rattle.base.proofs.Cases.{pick-both, both-pick}
use Rattle.sheet.specs.declared.Style.{Style}
use Rattle.paper.specs.Texts.{part_proper, parts_proper, part_carried, parts_carried}
use Rattle.paper.specs.Proper.{Verdict, fine, parts_from}
use Rattle.paper.specs.Carried.{parts_carried_from}
use Rattle.paper.proofs.Verdicts.{check-on, check-only}

-- the parts of a message, as a batch may hold them
pub parts-on : (k n : ℕ) (ps : List (List ℕ)) (rest : Verdict) → parts_proper ps ≡ true → parts_from k n ps rest ≡ rest
unfolding parts_from parts_proper
parts-on k n [] rest e = refl
parts-on k n (p ∷ ps) rest e =
    let b = pick-both (part_proper p) (parts_proper ps) e in
    check-on k n (part_proper p) _ b.0 ∙ parts-on k (n + 2) ps rest b.1

pub parts-only : (k n : ℕ) (ps : List (List ℕ)) (rest : Verdict) → parts_from k n ps rest ≡ fine → (parts_proper ps ≡ true) × (rest ≡ fine)
unfolding parts_from parts_proper
parts-only k n [] rest e = (refl, e)
parts-only k n (p ∷ ps) rest e =
    let a = check-only k n (part_proper p) _ e in
    let b = parts-only k (n + 2) ps rest a.1 in
    (both-pick (part_proper p) (parts_proper ps) a.0 b.0, b.1)

-- and as a sheet can carry them
module _ (y : Style) where
  pub carried_on : (k n i : ℕ) (ps : List (List ℕ)) (rest : Verdict) → parts_carried y i ps ≡ true → parts_carried_from y k n i ps rest ≡ rest
  unfolding parts_carried_from parts_carried
  carried_on k n i [] rest e = refl
  carried_on k n i (p ∷ ps) rest e =
      let b = pick-both (part_carried y i p) (parts_carried y (suc i) ps) e in
      check-on k n (part_carried y i p) _ b.0 ∙ carried_on k (n + 2) (suc i) ps rest b.1

  pub carried-only : (k n i : ℕ) (ps : List (List ℕ)) (rest : Verdict) → parts_carried_from y k n i ps rest ≡ fine → (parts_carried y i ps ≡ true) × (rest ≡ fine)
  unfolding parts_carried_from parts_carried
  carried-only k n i [] rest e = (refl, e)
  carried-only k n i (p ∷ ps) rest e =
      let a = check-only k n (part_carried y i p) _ e in
      let b = carried-only k (n + 2) (suc i) ps rest a.1 in
      (both-pick (part_carried y i p) (parts_carried y (suc i) ps) a.0 b.0, b.1)
