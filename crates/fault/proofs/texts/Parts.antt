-- The parts of a message, measured one after the other. Assumes nothing.
use mathlib.Core.Path.{◌≡◌, refl, sym, ap, ◌∙◌}
use mathlib.Core.Bool.{Bool, true, false, not}
use mathlib.Core.List.{List, []}
use Prim.Native.Nat.{ℕ, suc, ◌+◌, ◌-◌, ◌≤◌, ◌<◌}
use native.Mathlib.Omega.{arith}
use lib.Dec.{ltb}
use lib.ListN.{length, drop, length-drop}
use lib.Seq.{drop-drop, length-take-le}
use Rattle.base.specs.Pick.{pick}
use Rattle.base.specs.Seek.{seek, before}
use Rattle.base.proofs.Seek.{seek-le}
use Rattle.base.proofs.Lists.{drop-none}
use Rattle.paper.specs.Warnings.{long_part}
use Rattle.paper.specs.Bytes.{bar, null}
use Rattle.paper.specs.Texts.{Piece, piece, others, divide, over, overs}
use Rattle.text.proofs.span.Right.{others-skip, others-last}
use Rattle.why.proofs.Texts.{null-both, null-over}

-- are all parts from `from` on short?
abbrev pub rest_short : List ℕ → ℕ → Bool
rest_short m from = null (overs (divide from (drop from m)))

-- count parts were found in m, the last of which begins at `from` and ends at `end`; whether all before it are short
pub record Found (m : List ℕ) (from end count : ℕ) (short : Bool) : Type 0 where
  pub low : from ≤ length m
  pub ends : end ≡ from + seek bar (drop from m)
  pub few : count ≤ from + 1
  pub parts : length (divide 0 m) ≡ count + length (others from (drop from m))
  pub shorts : null (overs (divide 0 m)) ≡ pick short (rest_short m from) false

module _ (m : List ℕ) where
  pub found_first : (end : ℕ) → end ≡ 0 + seek bar m → Found m 0 end 1 true
  unfolding pick
  found_first end e =
      record {
        low = omega arith;
        ends = e ∙ ap (λ (s : List ℕ). 0 + seek bar s) (sym (drop-none m));
        few = omega arith;
        parts = rw (drop-none m) (omega arith);
        shorts = rw (drop-none m);
      }

  module _ (from end count : ℕ) (short : Bool) (f : Found m from end count short) where
    size : length (before bar (drop from m)) ≡ end - from
    size = length-take-le (seek bar (drop from m)) (drop from m) (seek-le bar (drop from m)) ∙ omega (arith, f.ends)

    -- this part, and those behind it
    one_more : rest_short m from ≡ pick (not (ltb 35 (end - from))) (null (overs (others from (drop from m)))) false
    unfolding overs
    one_more = null-both (over long_part (piece from (before bar (drop from m)))) (overs (others from (drop from m))) ∙ rw (null-over long_part (piece from (before bar (drop from m))), size)

    pub end-within : end ≤ length m
    end-within = omega (arith, f.ends, f.low, seek-le bar (drop from m), length-drop from m)

    pub from-within : from ≤ end
    from-within = omega (arith, f.ends)

    next-test : (a b c : Bool) → pick a (pick (not b) c false) false ≡ pick (pick b false a) c false
    unfolding pick
    next-test true true c = refl
    next-test true false c = refl
    next-test false true c = refl
    next-test false false c = refl

    module _ (l : end < length m) where
      -- what is left falls, and no count passes what there is
      pub falls : length m - (end + 1) < length m - from
      falls = omega (arith, f.ends)

      pub count_low : count ≤ length m
      count_low = omega (arith, f.few, f.ends)

      behind : others from (drop from m) ≡ divide (end + 1) (drop (end + 1) m)
      behind =
          let e : from + suc (seek bar (drop from m)) ≡ end + 1 = omega (arith, f.ends) in
          others-skip from (drop from m) (omega (arith, f.ends, length-drop from m))
          ∙ (rw (drop-drop (suc (seek bar (drop from m))) from m) (rw e))

      pub found-next : (end' : ℕ) (short' : Bool) → end' ≡ end + 1 + seek bar (drop (end + 1) m) → short' ≡ pick (ltb 35 (end - from)) false short
          → Found m (end + 1) end' (count + 1) short'
      found-next end' short' e s =
          record {
            low = omega arith;
            ends = e;
            few = omega (arith, f.few, from-within);
            parts = f.parts ∙ (ap (λ (ps : List Piece). count + length ps) behind ∙ omega arith);
            shorts = f.shorts ∙ (ap (λ (t : Bool). pick short t false) (one_more ∙ ap (λ (ps : List Piece). pick (not (ltb 35 (end - from))) (null (overs ps)) false) behind) ∙ (next-test short (ltb 35 (end - from)) (rest_short m (end + 1)) ∙ rw (← s)));
          }

    module _ (l : length m ≤ end) where
      last_one : others from (drop from m) ≡ []
      last_one = others-last from (drop from m) (omega (arith, f.ends, length-drop from m))

      pub count-all : count ≡ length (divide 0 m)
      count-all = sym (f.parts ∙ (ap (λ (ps : List Piece). count + length ps) last_one ∙ omega arith))

      pub short-all : (r : Bool) → r ≡ pick (ltb 35 (end - from)) false short → r ≡ null (overs (divide 0 m))
      unfolding overs null pick
      short-all r s = s ∙ sym (f.shorts ∙ (ap (λ (t : Bool). pick short t false) (one_more ∙ rw last_one) ∙ (next-test short (ltb 35 (end - from)) true ∙ both_true (pick (ltb 35 (end - from)) false short))))
        where
          both_true : (b : Bool) → pick b true false ≡ b
          both_true true = refl
          both_true false = refl

pub ruleset measured = (found_first, end-within, from-within, falls, count_low, found-next, count-all, short-all)
