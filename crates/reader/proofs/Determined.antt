-- The contract of a reader's step leaves one answer, and an answer of finding a line is known by what it tells. Assumes nothing.
use Rattle.std.proofs.Common.{Option, Some, None}
use mathlib.Core.Path.{◌≡◌, refl, sym, ap, ◌∙◌}
use mathlib.Core.List.{List, [], ◌∷◌}
use Prim.Native.Nat.{ℕ, ◌+◌}
use native.Mathlib.Omega.{arith}
use Rattle.paper.specs.Lines.{Line}
use Rattle.scan.specs.declared.line.Cut.{Cut}
use Rattle.scan.proofs.line.Only.{cuts-one}
use Rattle.reader.specs.declared.AboLine.{AboLine}
use Rattle.reader.specs.declared.Found.{Found}
use Rattle.reader.specs.Named.{LineAnswer, told}
use Rattle.reader.specs.Finding.{Finds, cut_of}

-- ---- what stands at a place

module _ (f : List ℕ) (at : ℕ) where
  -- there is a line, and there is none
  both : {A : Type 0} (r : Found) → Finds f at (Some r) → Finds f at None → A
  both r x y = absurd (let n : ◌≡◌ {A = List Line} [] (_ ∷ _) = sym y ∙ x.1.lines in cc)

  same_line : (r q : Found) → Finds f at (Some r) → Finds f at (Some q) → r ≡ q
  same_line r q x y =
      let c = cuts-one f at (cut_of r) (cut_of q) x.1 y.1 in
      let starts : r.start ≡ q.start = x.0 ∙ sym y.0 in
      let stops : r.start + r.len ≡ q.start + q.len = ap (λ (z : Cut). z.stop) c in
      let lens : r.len ≡ q.len = omega arith in
      λ i. record { start = starts i; len = lens i; next = ap (λ (z : Cut). z.next) c i }

  pub finds-one : (r q : Option Found) → Finds f at r → Finds f at q → r ≡ q
  finds-one (Some r) (Some q) x y = ap Some (same_line r q x y)
  finds-one (Some r) None x y = both r x y
  finds-one None (Some q) x y = both q y x
  finds-one None None x y = refl

-- ---- the line of a number

-- the answer that tells this
abbrev answer_for : LineAnswer → AboLine
answer_for r = record { found = r.found; at = r.at; len = r.len }

-- two answers that tell the same are the same
pub told-one : (a b : AboLine) → told a ≡ told b → a ≡ b
told-one a b e = ap answer_for e
