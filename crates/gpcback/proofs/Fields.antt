-- Fields of a record as they are spelled: they are read back. Assumes nothing.
use mathlib.Core.Path.{◌≡◌, sym, ap, ◌∙◌}
use mathlib.Core.Bool.{true}
use mathlib.Core.List.{List, [], ◌∷◌}
use Prim.Native.Nat.{ℕ, ◌+◌, ◌-◌, ◌%◌, ◌^◌, ◌≤◌, ◌<◌}
use native.Mathlib.Omega.{arith}
use lib.ListN.{take, drop}
use lib.Seq.{take_at, drop_at, take-take, drop-drop}
use borrow.Author.Tests.{ne_eqb}
use Rattle.base.specs.Pick.{pick}
use Rattle.base.proofs.Cases.{by-eq}
use Rattle.base.proofs.Lists.{drop-take}
use Rattle.base.proofs.Seek.{never}
use Rattle.paper.specs.Read.{value}
use Rattle.paper.specs.Numerals.{fixed_on, fixed}
use Rattle.paper.specs.Entries.{Said}
use Rattle.numeral.proofs.Fixed.{fixed-length}
use Rattle.numeral.proofs.Back.{fixed_back}
use Rattle.turnover.proofs.Laws.{field_back}
use Rattle.gpc.specs.Parts.{slice, or51}
use Rattle.gpc.specs.Signed.{Signed, Fourteen, read_digits, on_signed, spell_signed}
use Rattle.gpc.specs.Turnovers.{is_code}
use Rattle.gpc.specs.Records.{read_code}

-- ---- a number

pub digits-back : (k n : ℕ) → n < 10 ^ k → read_digits k (fixed k n) ≡ value n
unfolding read_digits or51
digits-back k n h = rw (fixed_back k n h)

-- ---- a posting code

-- it is a digit, and not 0
pub code-digit : (c : ℕ) → is_code c ≡ true → (1 ≤ c) × (c ≤ 9)
unfolding is_code pick
code-digit c h =
    by-eq c 1 (λ e. (omega arith, omega arith)) λ n1.
    by-eq c 2 (λ e. (omega arith, omega arith)) λ n2.
    by-eq c 4 (λ e. (omega arith, omega arith)) λ n4.
    by-eq c 5 (λ e. (omega arith, omega arith)) λ n5.
    never (sym (simp (ne_eqb c 1 n1, ne_eqb c 2 n2, ne_eqb c 4 n4, ne_eqb c 5 n5) at h))

pub code-back : (c : ℕ) → is_code c ≡ true → read_code (fixed 1 c) ≡ value c
unfolding read_code fixed fixed_on pick
code-back c h =
    let s : c ≤ 9 = (code-digit c h).1 in
    let e : 48 + c % 10 - 48 ≡ c = omega arith in
    rw (e, h)

-- ---- a number with a sign

module _ (at : ℕ) (s : List ℕ) where
  -- the digits and the sign of fifteen bytes
  pub digits-slice : slice at 14 s ≡ take 14 (slice at 15 s)
  digits-slice = sym (take-take 14 15 (drop at s) (omega arith))

  pub sign-slice : slice (at + 14) 1 s ≡ drop 14 (slice at 15 s)
  sign-slice = ap (take 1) (sym (drop-drop 14 at s)) ∙ sym (drop-take 14 15 (drop at s))

pub signed_back : {B : Type 0} (plus at : ℕ) (s : List ℕ) (k : Signed → Said B) (x : Signed) → Fourteen x → (plus ≡ 45 → ⊥)
    → slice at 15 s ≡ spell_signed plus x → on_signed plus at s k ≡ k x
unfolding spell_signed
signed_back plus at s k x f n e =
    field_back plus at s k x f n
    (digits-slice at s ∙ ap (take 14) e ∙ take_at (fixed 14 x.size) (pick x.minus 45 plus ∷ []) 14 (fixed-length 14 x.size))
    (sign-slice at s ∙ ap (drop 14) e ∙ drop_at (fixed 14 x.size) (pick x.minus 45 plus ∷ []) 14 (fixed-length 14 x.size))
