-- Bounds of the numbers that fields give, and that they passed the test behind them. Assumes nothing.
use Rattle.std.proofs.Common.{◌≡◌, ℕ, ◌^◌, ◌<◌, Bool, true, eqb, List, arith}
use Rattle.base.specs.Pick.{pick}
use Rattle.base.proofs.Cases.{either}
use Rattle.paper.specs.Read.{value, fault, given}
use Rattle.paper.specs.Bytes.{null}
use Rattle.paper.specs.Numerals.{digits}
use Rattle.paper.specs.FileLine.{read_number}
use Rattle.paper.specs.ItemLine.{read_symbol_or_none}
use Rattle.paper.proofs.LineSays.{Symbol, no_symbol, a_symbol, or-none}
use Rattle.numeral.proofs.Sound.{digits-sound, same}
use Rattle.numeral.proofs.given.Given.{given-value, passed}

-- a number of so many digits that is tested, and refused with n: an account file's kind, number, bank
tested-by : (least most : ℕ) (n : ℕ → ℕ) (ok : ℕ → Bool) (s : List ℕ) (v : ℕ)
    → given (digits least most s) (λ k. pick (ok k) (value k) (fault (n k))) ≡ value v → (v < 10 ^ most) × (ok v ≡ true)
tested-by least most n ok s v e =
    let g = given-value _ (digits least most s) v e in
    let p = passed (ok g.0) g.0 v (n g.0) g.2 in
    let m : g.0 ≡ v = p.1 in
    (rw (← m) (digits-sound least most s g.0 g.1), rw (← m) p.0)

pub tested : (least most n : ℕ) (ok : ℕ → Bool) (s : List ℕ) (v : ℕ) → given (digits least most s) (λ k. pick (ok k) (value k) (fault n)) ≡ value v
    → (v < 10 ^ most) × (ok v ≡ true)
tested least most n ok s v e = tested-by least most (λ _. n) ok s v e

pub number-tested : (test : ℕ → ℕ) (s : List ℕ) (v : ℕ) → read_number test s ≡ value v → (v < 10 ^ 6) × (eqb (test v) 0 ≡ true)
unfolding read_number
number-tested test s v e = tested-by 6 6 test (λ n. eqb (test n) 0) s v e

-- a symbol, which may be missing
or-none-sound : (s : List ℕ) (v : ℕ) → read_symbol_or_none s ≡ value v → v < 10 ^ 10
unfolding read_symbol_or_none
or-none-sound s v =
    either (λ x. x ≡ value v → v < 10 ^ 10) (null s) (λ _ e. omega (arith, same 0 v e)) (λ _ e. digits-sound 1 10 s v e)

pub symbol-sound : {v : ℕ} → Symbol v → v < 10 ^ 10
symbol-sound no_symbol = omega arith
symbol-sound (a_symbol {v} f) = digits-sound 1 10 f.0 v f.1
symbol-sound (or-none {v} f) = or-none-sound f.0 v f.1
