-- Bytes that end no line: text bytes and digits are such. Assumes nothing.
use mathlib.Core.Path.{◌≡◌, sym}
use mathlib.Core.Bool.{true, false}
use mathlib.Core.List.{List}
use Prim.Native.Nat.{ℕ, ◌<◌}
use native.Mathlib.Omega.{arith}
use lib.Dec.{eqb, ltb}
use borrow.Author.Tests.{ltb-false, ne_eqb, not-true}
use Rattle.base.specs.Pick.{pick}
use Rattle.base.specs.Seek.{all}
use Rattle.base.proofs.Cases.{by-test}
use Rattle.base.proofs.Seek.{never, all_weaker}
use Rattle.paper.specs.Bytes.{is_text, is_digit}
use Rattle.scan.specs.line.Cutting.{is_plain}

pub plain-lf : (b : ℕ) → is_plain b ≡ true → eqb b 10 ≡ false
unfolding is_plain pick
plain-lf b p = by-test (eqb b 10) (λ e. never (sym (simp e at p))) (λ e. e)

pub plain-cr : (b : ℕ) → is_plain b ≡ true → eqb b 13 ≡ false
unfolding is_plain pick
plain-cr b p = not-true (eqb b 13) (simp (plain-lf b p) at p)

pub is-plain : (b : ℕ) → (b ≡ 10 → ⊥) → (b ≡ 13 → ⊥) → is_plain b ≡ true
unfolding is_plain pick
is-plain b n m = simp (ne_eqb b 10 n, ne_eqb b 13 m)

-- a byte above CR
pub high-plain : (b : ℕ) → 13 < b → is_plain b ≡ true
high-plain b h = is-plain b (λ e. absurd (omega arith)) (λ e. absurd (omega arith))

-- every text byte, and every digit
pub text-plain : (b : ℕ) → is_text b ≡ true → is_plain b ≡ true
unfolding is_text pick
text-plain b t =
    by-test (ltb b 32) (λ e. never (sym (simp e at t))) (λ e. high-plain b (omega (arith, ltb-false b 32 e)))

pub digit-plain : (b : ℕ) → is_digit b ≡ true → is_plain b ≡ true
unfolding is_digit pick
digit-plain b t =
    by-test (ltb b 48) (λ e. never (sym (simp e at t))) (λ e. high-plain b (omega (arith, ltb-false b 48 e)))

pub texts-plain : (s : List ℕ) → all is_text s ≡ true → all is_plain s ≡ true
texts-plain = all_weaker is_text is_plain text-plain

pub digits-plain : (s : List ℕ) → all is_digit s ≡ true → all is_plain s ≡ true
digits-plain = all_weaker is_digit is_plain digit-plain
