-- A row that passes the tests of writing holds what can be written. Assumes nothing.
use mathlib.Core.Path.{◌≡◌, subst}
use mathlib.Core.List.{List}
use Prim.Native.Nat.{ℕ, ◌≤◌}
use native.Mathlib.Omega.{arith}
use lib.Dec.{eqb, ltb}
use lib.ListN.{length}
use borrow.Author.Tests.{ltb-false}
use Rattle.base.proofs.Cases.{either}
use Rattle.turnover.proofs.Laws.{word-fourteen}
use Rattle.gpc.specs.Records.{Thing, strange, said}
use Rattle.gpc.specs.StatementRows.{statement_row, word_in, head_in, movement_in, thing_in, tested}
use Rattle.gpcback.specs.Proper.{ProperHead, ProperMovement, Proper}
use Rattle.gpcback.proofs.ReadFields.{slice-length}
use Rattle.gpcback.proofs.Tests.{HeadPasses, MovementPasses, Passes, tested-same}

module _ (r : List ℕ) where
  head-proper : statement_row ≤ length r → HeadPasses (head_in r) → ProperHead (head_in r)
  unfolding head_in
  head-proper l p =
      record {
        account = p.account;
        before = slice-length 64 26 r (omega arith);
        old = word-fourteen (word_in r 3) p.old;
        new = word-fourteen (word_in r 4) p.new;
        debit = word-fourteen (word_in r 5) p.debit;
        credit = word-fourteen (word_in r 6) p.credit;
        behind = slice-length 90 23 r (omega arith);
      }

  movement-proper : statement_row ≤ length r → MovementPasses (movement_in r) → ProperMovement (movement_in r)
  unfolding movement_in
  movement-proper l p =
      record {
        account = p.account;
        other = p.other;
        before = slice-length 64 13 r (omega arith);
        amount = p.amount;
        code = p.code;
        variable = p.variable;
        behind = slice-length 77 57 r (omega arith);
      }

  -- a row that is cut short holds nothing, so no length is asked
  row-proper : Passes (thing_in r) → Proper (thing_in r)
  unfolding thing_in
  row-proper =
      either (λ (g : Thing). Passes g → Proper g) (ltb (length r) statement_row) (λ e z. absurd z)
      (λ e. either (λ (g : Thing). Passes g → Proper g) (eqb (word_in r 0) 74) (λ a p. head-proper (ltb-false (length r) statement_row e) p)
      (λ a. either (λ (g : Thing). Passes g → Proper g) (eqb (word_in r 0) 75) (λ b p. movement-proper (ltb-false (length r) statement_row e) p)
      (λ b z. absurd z)))

  pub tested-proper : (t : Thing) → tested (thing_in r) ≡ said t → (t ≡ strange → ⊥) → (thing_in r ≡ t) × Proper t
  tested-proper t e n =
      let p = tested-same (thing_in r) t e n in
      (p.1, subst Proper p.1 (row-proper p.0))
