-- The loop of `sum_run`, and what the sums of a prefix and a base say of an account. Assumes nothing.
use mathlib.Core.Path.{◌≡◌, sym, ◌∙◌}
use mathlib.Core.Bool.{Bool, true}
use mathlib.Core.List.{List}
use Prim.Native.Nat.{ℕ, ◌+◌, ◌-◌, ◌*◌, ◌^◌, ◌≤◌, ◌<◌}
use native.Mathlib.Omega.{arith}
use lib.ListN.{length, drop}
use Rattle.paper.specs.Read.{value}
use Rattle.paper.specs.Numerals.{digits}
use Rattle.paper.specs.Accounts.{account_ok}
use Rattle.numeral.proofs.Digits.{ten-le}
use Rattle.numeral.proofs.Sound.{digits-sound}
use Rattle.account.specs.Doubled.{doubled, sums_ok}
use Rattle.account.proofs.Doubled.{doubled-none, doubled-le, doubled-more}
use Rattle.account.proofs.Rule.{sums-of}
use Rattle.numeral.specs.field.Digits.{run}
use Rattle.numeral.proofs.field.Turns.{Reads, reads-long, ahead-end, fits_more}
use Rattle.numeral.proofs.field.Number.{run_inside}
use Rattle.account.specs.at.Parts.{Short, dashed}
use Rattle.account.proofs.at.Digits.{recount}
use Rattle.account.proofs.at.Exits.{dashed-most}

-- ---- the loop, with the sum of what was read before i

pub sum-start : 0 ≡ doubled 19 0
sum-start = sym (doubled-none 19)

module _ (s : List ℕ) (at most stop v i : ℕ) (inv : Reads s at most stop v i) (l : i < stop) (w : stop ≤ length s) (m : stop ≤ at + most) (c : most ≤ 19) (sum : ℕ) (e : sum ≡ doubled 19 v) where
  sum-le : sum ≤ v
  sum-le = omega (arith, e, doubled-le 19 v)

  pub sum_fits : (x : ℕ) → x ≤ 9 → sum * 2 + x < 18446744073709551616
  sum_fits x k = omega (arith, sum-le, fits_more s at most stop v i inv l w m c x k)

  pub sum-next : (x y : ℕ) → x ≤ 9 → y ≡ sum * 2 + x → y ≡ doubled 19 (v * 10 + x)
  sum-next x y k g =
      let f = inv.from in
      let b : v < 10 ^ 18 = omega (arith, inv.small, ten-le (i - at) 18 (omega arith)) in
      g ∙ sym (doubled-more 18 v x b (omega arith) ∙ rw (← e))

-- where no byte stopped it, it read up to its stop
pub run-stop : (s : List ℕ) (at most stop v i : ℕ) → Reads s at most stop v i → stop ≤ i → stop ≡ at + length (run most (drop at s))
run-stop s at most stop v i inv l = let t = inv.to in omega (arith, reads-long s at most stop v i inv (ahead-end s at most stop v i inv l))

pub ruleset sums = (sum-start, sum_fits, sum-next, run-stop)

-- ---- numbers of ten digits or fewer

pub zero-small : 0 < 10000000000
zero-small = omega arith

pub short-small : (n v : ℕ) → Short n v → n ≤ 10 → v < 10000000000
short-small n v a h = a.small h

-- a run's number v, and its end e
module _ (s : List ℕ) (at e v : ℕ) where
  pub base-small : digits 0 10 (run 10 (drop at s)) ≡ value v → v < 10000000000
  base-small g = digits-sound 0 10 (run 10 (drop at s)) v g

  -- behind a dash at `at`
  pub base-inside : (most : ℕ) → e ≡ at + 1 + length (run most (drop (at + 1) s)) → at < length s → e ≤ length s
  base-inside most h l = run_inside s (at + 1) most e v h (omega arith)

  module _ (h : e ≡ at + length (run 16 (drop at s))) (g : digits 0 16 (run 16 (drop at s)) ≡ value v) where
    ten-digits : e - at ≤ 10 → v < 10000000000
    ten-digits k = digits-sound 0 10 (run 16 (drop at s)) v (recount 0 16 0 10 (run 16 (drop at s)) v g (omega arith) (omega arith))

    pub run_short : Short (e - at) v
    run_short = record { small = ten-digits }

    pub prefix-small : (u : Bool) → u ≡ dashed s at e → u ≡ true → v < 10000000000
    prefix-small u d y = ten-digits (omega (arith, dashed-most s at e (sym d ∙ y)))

pub ruleset smalls = (sum-start, zero-small, short-small, base-small, base-inside, run_short, prefix-small)

-- the rule, by the sums
module _ (p b x y : ℕ) (t : Bool) (k : t ≡ sums_ok x y) (l : p < 10000000000) (e : x ≡ doubled 19 p) (m : b < 10000000000) (f : y ≡ doubled 19 b) where
  pub rule-by-sums : t ≡ account_ok p b
  rule-by-sums = k ∙ rw (e, f) (sums-of p b l m)
