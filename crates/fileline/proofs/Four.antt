-- A field of four digits that is known by its four bytes and the one behind them. Assumes nothing.
use mathlib.Core.Path.{◌≡◌, refl, sym, ◌∙◌}
use mathlib.Core.Bool.{Bool, true, false}
use mathlib.Core.List.{List}
use Prim.Native.Nat.{ℕ, ◌+◌, ◌≤◌}
use native.Mathlib.Omega.{arith}
use lib.ListN.{length, get_or, take, drop, length-drop}
use lib.Seq.{drop-drop}
use Rattle.base.specs.Pick.{pick}
use Rattle.base.specs.Seek.{seek}
use Rattle.base.proofs.Seek.{never, seek-over}
use Rattle.paper.specs.Read.{value}
use Rattle.paper.specs.Bytes.{is_digit, space, field_of, null}
use Rattle.paper.specs.Numerals.{digits}
use Rattle.numeral.specs.placed.Placed.{Placed}
use Rattle.numeral.proofs.placed.Bytes.{placed-four}
use Rattle.numeral.specs.field.At.{found, ending, field_at}
use Rattle.numeral.specs.field.Digits.{Worth}
use Rattle.numeral.proofs.field.Front.{field-ends}
use Rattle.numeral.proofs.field.Turns.{is-digit}

-- ---- the test: what each byte is worth

pub no-four : (s : List ℕ) (at : ℕ) → false ≡ true → Placed 4 s at
no-four s at e = never (sym e)

module _ (s : List ℕ) (at : ℕ) (l : at + 4 ≤ length s) (a b c d : ℕ) where
  pub is-four : Worth (get_or s at 0) a → a ≤ 9 → Worth (get_or s (at + 1) 0) b → b ≤ 9 → Worth (get_or s (at + 2) 0) c → c ≤ 9 → Worth (get_or s (at + 3) 0) d → d ≤ 9 → Placed 4 s at
  is-four f i g j h k m n = placed-four s at l (is-digit _ a f i) (is-digit _ b g j) (is-digit _ c h k) (is-digit _ d m n)

-- ---- the field

module _ (s : List ℕ) (at : ℕ) (p : Placed 4 s at) (h : null (field_of (drop (at + 4) s)) ≡ true) where
  four-long : seek space (drop at s) ≡ 4
  unfolding is_digit pick
  four-long =
      let o = seek-over is_digit 32 refl 4 (drop at s) (omega (arith, length-drop at s, p.inside)) p.plain in
      let d : seek space (drop 4 (drop at s)) ≡ 0 = rw (drop-drop 4 at s) (field-ends (drop (at + 4) s) h) in
      omega arith

  four-field : (v : ℕ) → digits 4 4 (take 4 (drop at s)) ≡ value v → found v (at + 4) ≡ field_at (digits 4 4) s at
  unfolding field_at ending
  four-field v g = rw (four-long, g)

-- t and u are what was asked of the bytes and of the field's end
module _ (s : List ℕ) (at : ℕ) (t u : Bool) (a : t ≡ true → Placed 4 s at) (b : t ≡ true) where
  pub four-known : Placed 4 s at
  four-known = a b

  pub four-read : u ≡ null (field_of (drop (at + 4) s)) → u ≡ true → (v : ℕ) → digits 4 4 (take 4 (drop at s)) ≡ value v → found v (at + 4) ≡ field_at (digits 4 4) s at
  four-read f e v g = four-field s at (a b) (sym f ∙ e) v g

pub ruleset fours = (no-four, is-four, four-known, four-read)
