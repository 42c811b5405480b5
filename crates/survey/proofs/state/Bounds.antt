-- The numbers of the judging stay small from row to row. Assumes nothing.
use mathlib.Core.Path.{refl, ap}
use Prim.Native.Nat.{ℕ, ◌≤◌}
use native.Mathlib.Omega.{arith}
use Rattle.paper.specs.Proper as paper
use Rattle.roundtrip.proofs.flat.Few.{few-top, few-rows}
use Rattle.rows.specs.walk.Walks.{before_of}
use Rattle.survey.specs.declared.state.State.{State}
use Rattle.survey.specs.state.Stands.{Starts}
use Rattle.survey.specs.state.Low.{Low}

pub low-start : (st : State) → Starts st → Low 1 st
low-start st s =
    record {
      n = 0;
      row = refl;
      few = rw s.before few-top;
      bytes = omega (arith, s.bytes);
      sum = omega (arith, ap (λ (p : paper.Before). p.sum) s.before);
    }

-- so they fit the code's numbers
pub record Limits (k : ℕ) (st : State) : Type 0 where
  pub row : k ≤ 200000001
  pub bytes : st.bytes ≤ 100000000000

module _ (k : ℕ) (st : State) (low : Low k st) where
  pub limits : Limits k st
  limits =
      let few : low.n ≤ 200000000 = few-rows (before_of st.before) low.n low.few in
      record { row = omega (arith, low.row); bytes = omega (arith, low.bytes) }

  pub low-bytes : st.bytes ≤ 100000000000
  low-bytes = limits.bytes
