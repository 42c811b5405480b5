-- The known sheets one after another: k of them are done, and the number k + 1 names the first of the rest, or none is left. Assumes nothing.
use Rattle.std.proofs.Common.{Option, Some, None}
use mathlib.Core.Path.{◌≡◌, refl, sym, ap, ◌∙◌}
use mathlib.Core.Bool.{Bool, true, ◌&&◌}
use mathlib.Core.List.{List, [], ◌∷◌}
use Prim.Native.Nat.{ℕ, zero, suc, ◌+◌, ◌-◌, ◌≤◌, ◌<◌}
use native.Mathlib.Numerals.{add-one}
use native.Mathlib.Omega.{arith}
use lib.Dec.{eqb}
use lib.ListN.{length, drop}
use borrow.Author.Tests.{eqb-true, eq-eqb, ne_eqb, leb-true}
use Rattle.base.proofs.Cases.{both, pick_true, pick-false}
use Rattle.sheet.specs.declared.Sheet.{Sheet}
use Rattle.sheet.specs.Sheets.{sheets, first_named, sheet_of}

-- ---- the sheets of a list whose numbers follow each other

-- they are k, k + 1, ..
abbrev pub follow : ℕ → List Sheet → Bool
follow k [] = true
follow k (a ∷ shs) = eqb a.number k && follow (suc k) shs

-- the sheet of the number n is the one behind the first i
pub record Next (i n : ℕ) (shs : List Sheet) (sh : Sheet) : Type 0 where
  pub rest : drop i shs ≡ sh ∷ drop (suc i) shs
  pub named : sh.number ≡ n
  pub few : i < length shs

abbrev at : ℕ → List Sheet → Option Sheet
at n shs = first_named (λ (x : Sheet). x.number) n shs

module _ (a : Sheet) (shs : List Sheet) (k : ℕ) (w : follow k (a ∷ shs) ≡ true) where
  pub number : a.number ≡ k
  number = eqb-true _ _ (both _ _ w).0

  pub others : follow (suc k) shs ≡ true
  others = (both (eqb a.number k) _ w).1

  -- the first of them has the first number,
  first : at (0 + k) (a ∷ shs) ≡ Some a
  first = let e : 0 + k ≡ a.number = omega (arith, number) in pick_true _ _ (eq-eqb _ _ e)

  -- and every other the number of another
  later : (i : ℕ) → at (suc i + k) (a ∷ shs) ≡ at (i + suc k) shs
  later i =
      let d : suc i + k ≡ a.number → ⊥ = λ e. omega (arith, number) in
      let e : suc i + k ≡ i + suc k = omega arith in
      pick-false _ _ (ne_eqb _ _ d) ∙ ap (λ (n : ℕ). at n shs) e

nothing : {P : Type 0} (s : Sheet) → None ≡ Some s → P
nothing s e = absurd (let z : ◌≡◌ {A = ℕ} 0 1 = cc in omega arith)

following : (i k : ℕ) (shs : List Sheet) (sh : Sheet) → follow k shs ≡ true → at (i + k) shs ≡ Some sh → Next i (i + k) shs sh
following i k [] sh w e = nothing sh e
following zero k (a ∷ shs) sh w e =
    let same : a ≡ sh = (let h : Some a ≡ Some sh = sym (first a shs k w) ∙ e in cc) in
    record { rest = ap (λ (x : Sheet). x ∷ shs) same; named = ap (λ (x : Sheet). x.number) (sym same) ∙ omega (arith, number a shs k w); few = omega arith }
following (suc i) k (a ∷ shs) sh w e =
    let n = following i (suc k) shs sh (others a shs k w) (sym (later a shs k w i) ∙ e) in
    record { rest = n.rest; named = n.named ∙ omega arith; few = omega (arith, n.few) }

ended : (i k : ℕ) (shs : List Sheet) → follow k shs ≡ true → at (i + k) shs ≡ None → drop i shs ≡ []
ended zero k [] w e = refl
ended (suc i) k [] w e = refl
ended zero k (a ∷ shs) w e = nothing a (sym e ∙ first a shs k w)
ended (suc i) k (a ∷ shs) w e = ended i (suc k) shs (others a shs k w) (sym (later a shs k w i) ∙ e)

-- ---- the known sheets, of which this is tested

pub sheets-follow : follow 1 sheets ≡ true
sheets-follow = refl

-- those behind the first k
unfoldable pub left : ℕ → List Sheet
left k = drop k sheets

-- how many there are
unfoldable pub many : ℕ
many = length sheets

-- no more than a number of 64 bits has bits, and one bit to spare
pub many-few : many ≤ 63
unfolding many
many-few = leb-true _ _ refl

pub left-all : left 0 ≡ sheets
unfolding left
left-all = refl

module _ (k : ℕ) (r : Option Sheet) (g : r ≡ sheet_of (k + 1)) where
  pub left-none : r ≡ None → left k ≡ []
  unfolding sheet_of left
  left-none e = ended k 1 sheets sheets-follow (sym g ∙ e)

  module _ (sh : Sheet) (e : r ≡ Some sh) where
    pub here : Next k (k + 1) sheets sh
    unfolding sheet_of
    here = following k 1 sheets sh sheets-follow (sym g ∙ e)

    pub left-next : left k ≡ sh ∷ left (k + 1)
    unfolding left
    left-next = rw add-one here.rest

    pub next-number : sh.number ≡ k + 1
    next-number = here.named

    pub next-few : k < many
    unfolding many
    next-few = here.few

    -- one less is left
    pub turn-less : many - (k + 1) < many - k
    turn-less = omega (arith, next-few)

    pub next_known : sheet_of (k + 1) ≡ Some sh
    next_known = sym g ∙ e
