-- A run and the stage that it stands for: opened, moved on, closed, ended; rules for a search. Assumes nothing.
use mathlib.Core.Path.{◌≡◌, refl, sym, ap, ◌∙◌}
use mathlib.Core.Bool.{Bool, true, false}
use mathlib.Core.List.{List, [], ◌∷◌, ◌++◌}
use Prim.Native.Nat.{ℕ}
use Rattle.std.specs.Prelude.{Option, Some, None, Result, Ok, Err}
use Rattle.refusal.specs.declared.Refusal.{Refusal}
use Rattle.refusal.specs.declared.Refusal.TheVariants.{BadTurnover, BadBalance}
use Rattle.base.proofs.Cases.{pick_true, pick-false}
use Rattle.turnover.specs.declared.Turns.{Turns}
use Rattle.turnover.specs.signed.Told.{said}
use Rattle.turnover.specs.Counts.{Counts}
use Rattle.turnover.proofs.Laws.{counts-last}
use Rattle.gpc.specs.Turnovers.{Moved, moved, is_debit, is_credit, balanced}
use Rattle.gpc.specs.Records.{Head, Movement}
use Rattle.gpc.specs.Statements.{moves_of, Spots as Places, closed, Stage, top, within}
use Rattle.record.specs.declared.HeadFields.{HeadFields}
use Rattle.record.specs.Told.{SmallHead}
use Rattle.statement.specs.declared.run.Open.{Open}
use Rattle.statement.specs.declared.run.Fault.{Fault}
use Rattle.statement.specs.run.Follows.{Within, Sized, AllSized, Follows, Opens, Moves, Closes, Ends}

-- ---- `opened`

pub opening : (k : ℕ) (x : HeadFields) (t : Turns) → SmallHead x → Counts t []
    → Opens k x (record { head = k; old = x.old; new = x.new; debit = x.debit; credit = x.credit; turns = t })
unfolding moves_of
opening k x t (a, b, c, d) h =
    record {
      by =
          λ κ.
          record {
            head = refl;
            old = refl;
            new = refl;
            debit = refl;
            credit = refl;
            counts = h;
            sized = record { old = a; new = b; debit = c; credit = d };
          };
    }

-- ---- `moved`

moves-last : (ms : List Movement) (m : Movement) → moves_of (ms ++ (m ∷ [])) ≡ moves_of ms ++ (moved m.code m.amount ∷ [])
unfolding moves_of
moves-last [] m = refl
moves-last (n ∷ ms) m = ap (λ (l : List Moved). moved n.code n.amount ∷ l) (moves-last ms m)

pub moving : (x : Open) (code amount : ℕ) (t : Turns) → ((ms : List Moved) → Counts x.turns ms → Counts t (moved code amount ∷ ms))
    → Moves x code amount
    (record { head = x.head; old = x.old; new = x.new; debit = x.debit; credit = x.credit; turns = t })
moving x code amount t f =
    record {
      by =
          λ j h ms m e g w.
          record {
            head = w.head;
            old = w.old;
            new = w.new;
            debit = w.debit;
            credit = w.credit;
            counts = rw (moves-last ms m, e, g) (counts-last t (moved code amount) (moves_of ms) (f (moves_of ms) w.counts));
            sized = record { old = w.sized.old; new = w.sized.new; debit = w.sized.debit; credit = w.sized.credit };
          };
    }

-- ---- `close`: d, c and b are what the three tests say

-- the sums of a statement that is open are told at its head
ends-open : (p : Places) (x : Open) (r : Result (Unit {0}) Fault) → ((j : ℕ) (h : Head) (ms : List Movement) → Within x j h ms → Closes p (within j h ms) r) → Ends p (Some x) r
ends-open p x r f = record { by = at }
  where
    at : (st : Stage) → Follows (Some x) st → Closes p st r
    at top w = absurd w
    at (within j h ms) w = f j h ms w

abbrev at_head : Open → Refusal → ℕ → Fault
at_head x r place = record { behind = x.head; flaw = record { 0 = r; 1 = place } }

module _ (p : Places) (x : Open) (d : Bool) (fd : (ms : List Moved) → Counts x.turns ms → d ≡ is_debit ms (said x.debit)) where
  pub debit-differs : d ≡ false → Ends p (Some x) (Err (at_head x BadTurnover p.debit))
  unfolding closed
  debit-differs e =
      ends-open p x _ λ j h ms w. (pick-false _ _ (rw (← w.debit) (sym (fd (moves_of ms) w.counts) ∙ e)), w.head)

  module _ (yd : d ≡ true) (c : Bool) (fc : (ms : List Moved) → Counts x.turns ms → c ≡ is_credit ms (said x.credit)) where
    debits : (j : ℕ) (h : Head) (ms : List Movement) → Within x j h ms → is_debit (moves_of ms) h.debit ≡ true
    debits j h ms w = rw (← w.debit) (sym (fd (moves_of ms) w.counts) ∙ yd)

    pub credit-differs : c ≡ false → Ends p (Some x) (Err (at_head x BadTurnover p.credit))
    unfolding closed
    credit-differs e =
        ends-open p x _ λ j h ms w.
        (pick_true _ _ (debits j h ms w) ∙ pick-false _ _ (rw (← w.credit) (sym (fc (moves_of ms) w.counts) ∙ e)), w.head)

    module _ (yc : c ≡ true) (b : Bool) (fb : b ≡ balanced (said x.old) (said x.new) (said x.debit) (said x.credit)) where
      credits : (j : ℕ) (h : Head) (ms : List Movement) → Within x j h ms → is_credit (moves_of ms) h.credit ≡ true
      credits j h ms w = rw (← w.credit) (sym (fc (moves_of ms) w.counts) ∙ yc)

      balances : (j : ℕ) (h : Head) (ms : List Movement) → Within x j h ms → balanced h.old h.new h.debit h.credit ≡ b
      balances j h ms w = rw (← w.old, ← w.new, ← w.debit, ← w.credit) (sym fb)

      pub balance-differs : b ≡ false → Ends p (Some x) (Err (at_head x BadBalance p.new))
      unfolding closed
      balance-differs e =
          ends-open p x _ λ j h ms w.
          (pick_true _ _ (debits j h ms w) ∙ pick_true _ _ (credits j h ms w) ∙ pick-false _ _ (balances j h ms w ∙ e), w.head)

      pub all-agree : b ≡ true → Ends p (Some x) (Ok tt)
      unfolding closed
      all-agree e =
          ends-open p x _ λ j h ms w.
          pick_true _ _ (debits j h ms w) ∙ pick_true _ _ (credits j h ms w) ∙ pick_true _ _ (balances j h ms w ∙ e)

pub ruleset closings = (debit-differs, credit-differs, balance-differs, all-agree)

-- ---- `over`

module _ (p : Places) (o : Option Open) where
  pub over-open : (x : Open) (r : Result (Unit {0}) Fault) → o ≡ Some x → Ends p (Some x) r → Ends p o r
  over-open x r q e = rw q e

  none-at : (st : Stage) → Follows None st → Closes p st (Ok tt)
  none-at top f = tt
  none-at (within j h ms) f = absurd f

  pub over-none : o ≡ None → Ends p o (Ok tt)
  over-none q = rw q (record { by = none-at })

pub sized-open : (o : Option Open) (x : Open) → AllSized o → o ≡ Some x → Sized x
sized-open o x s q = rw q at s

pub ruleset overs = (over-open, over-none, sized-open)
