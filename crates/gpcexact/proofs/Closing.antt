-- The end of a statement: its sums agree, or one of them differs. Assumes nothing.
use mathlib.Core.Path.{◌≡◌, ◌∙◌}
use mathlib.Core.List.{List}
use Prim.Native.Nat.{ℕ}
use Rattle.base.proofs.Cases.{either, pick_true}
use Rattle.paper.specs.Entries.{Said, got, no}
use Rattle.gpc.specs.Records.{Head, Movement}
use Rattle.gpc.specs.Statements.{Statement, statement, Agrees, Spots, closed}

-- which sum differs: the refusal's number and its place
pub data Differs (p : Spots) : ℕ → ℕ → Type 0 where
  debit : Differs p 52 p.debit
  credit : Differs p 52 p.credit
  balance : Differs p 53 p.new

module _ (p : Spots) (h : Head) (ms : List Movement) where
  pub data Closed : Said Statement → Type 0 where
    agree : Agrees (statement h ms) → Closed (got (statement h ms))
    differ : {n off : ℕ} → Differs p n off → Closed (no n off)

  -- it is one or the other,
  pub closing : Closed (closed p h ms)
  unfolding closed
  closing =
      either Closed _
      (λ d. either Closed _
      (λ c. either Closed _ (λ b. agree (record { debit = d; credit = c; new = b })) (λ _. differ balance))
      (λ _. differ credit))
      (λ _. differ debit)

  -- and where the sums agree it is taken
  pub agrees-closed : Agrees (statement h ms) → closed p h ms ≡ got (statement h ms)
  unfolding closed
  agrees-closed a = pick_true _ _ a.debit ∙ pick_true _ _ a.credit ∙ pick_true _ _ a.new
