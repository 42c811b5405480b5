-- How many warnings the texts of an item can give. Assumes nothing.
use mathlib.Core.Path.{◌≡◌}
use mathlib.Core.List.{List, [], ◌∷◌}
use Prim.Native.Nat.{ℕ, ◌≤◌}
use native.Mathlib.Omega.{arith}
use lib.Dec.{ltb}
use lib.ListN.{length, length-append}
use borrow.Author.Tests.{ltb-false}
use Rattle.base.proofs.Cases.{either}
use Rattle.sheet.specs.declared.Style.{Style}
use Rattle.paper.specs.Read.{Field, value, fault}
use Rattle.paper.specs.Warnings.{Warning, long_part, long_name, Notice}
use Rattle.paper.specs.Texts.{Piece, Noted, over, overs, fitted, finish, message, marked, read_text}

over-one : (w : Warning) (p : Piece) → length (over w p) ≤ 1
unfolding over
over-one w p = either (λ (l : List Notice). length l ≤ 1) (ltb 35 (length p.bytes)) (λ _. omega arith) (λ _. omega arith)

overs-few : (ps : List Piece) → length (overs ps) ≤ length ps
unfolding overs
overs-few [] = omega arith
overs-few (p ∷ ps) = omega (arith, length-append (over long_part p) (overs ps), over-one long_part p, overs-few ps)

-- four parts and a name
abbrev Few : Field Noted → Type 0
Few (value x) = length x.warnings ≤ 5
Few (fault n) = Unit {0}

module _ (y : Style) (l : y.most ≤ 4) where
  fitted-few : (ps : List Piece) (n : Piece) → Few (fitted y ps n)
  unfolding fitted
  fitted-few ps n =
      either Few (ltb y.most (length ps)) (λ _. tt)
      (λ e. either Few _ (λ _. omega (arith, ltb-false y.most (length ps) e, length-append (overs ps) (over long_name n), overs-few ps, over-one long_name n)) (λ _. tt))

  finish-few : (ps : List Piece) (n : Piece) → Few (finish y ps n)
  unfolding finish
  finish-few ps n = either Few _ (λ _. fitted-few ps n) (λ _. tt)

  message-few : (at : ℕ) (m : List ℕ) → Few (message y at m)
  unfolding message
  message-few at m = finish-few _ _

  marked-few : (at : ℕ) (t : List ℕ) → Few (marked y at t)
  unfolding marked
  marked-few at t =
      either Few _ (λ _. finish-few _ _)
      (λ _. either Few _ (λ _. message-few _ _) (λ _. either Few _ (λ _. message-few _ _) (λ _. tt)))

  text-few : (at : ℕ) (t : List ℕ) → Few (read_text y at t)
  unfolding read_text
  text-few at t =
      either Few _ (λ _. either Few _ (λ _. either Few _ (λ _. marked-few _ _) (λ _. tt)) (λ _. message-few _ _)) (λ _. tt)

  pub text-warnings : (at : ℕ) (t : List ℕ) (x : Noted) → read_text y at t ≡ value x → length x.warnings ≤ 5
  text-warnings at t x e = rw e at (text-few at t)
