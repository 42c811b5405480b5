-- The whole answer of reading statements, by what the file was judged to be: rules for a search. Assumes nothing.
use mathlib.Core.Path.{◌≡◌, refl, sym, ap, ◌∙◌}
use mathlib.Core.Bool.{true, false}
use mathlib.Core.List.{List}
use Prim.Native.Nat.{ℕ, ◌+◌, ◌*◌, ◌/◌, ◌≤◌, ◌<◌}
use native.Mathlib.Numerals.{add-one}
use native.Mathlib.Omega.{arith}
use lib.Dec.{ltb}
use lib.ListN.{length}
use borrow.Author.Tests.{lt-ltb, le-ltb}
use Rattle.std.specs.Prelude.{Result, Ok, Err}
use Rattle.refusal.specs.Numbers.{number_of}
use Rattle.base.proofs.Cases.{pick_true, pick-false}
use Rattle.gpc.specs.Records.{records_in, saids}
use Rattle.gpc.specs.Statements.{Statement, things, record_spots, Judged as Answer, accepted, refused}
use Rattle.gpc.specs.Answers.{StatementAnswer, refused_at, needs, accepted_as, row_count, answered, judge_file, statement_answer, filled, statement_rows}
use Rattle.gpcexact.proofs.Main.{exact, counted}
use Rattle.gpcexact.proofs.Named.{file-placed}
use Rattle.gpcback.proofs.ManySound.{records-sound, things-known}
use Rattle.statement.specs.declared.run.Fault.{Fault}
use Rattle.statement.specs.Forms.{in_file, Putable, PutAll}
use Rattle.statement.specs.run.Follows.{fine, wrong, outcome, Tells}
use Rattle.statement.specs.reading.Told.{Accepted}
use Rattle.statement.proofs.Pieces.{file-all, file-puts}

-- ---- `refusal`

pub refusal-told : (n m k off : ℕ) → m ≡ n → record { number = m; line = k + 1; byte = 130 * k + off; rows = 0; needed = 0 } ≡ refused_at n k off
refusal-told n m k off e = rw (e, add-one k) refl

-- ---- an outcome is one answer's

pub refused_as : (a : Answer) (n k off : ℕ) → outcome a ≡ wrong n k off → a ≡ refused n k off
unfolding outcome
refused_as (accepted ss) n k off e = absurd (let z : ◌≡◌ {A = ℕ} 0 1 = cc in omega arith)
refused_as (refused m j at) n k off e = cc

pub accepted-as : (a : Answer) → outcome a ≡ fine → (ss : List Statement) × (a ≡ accepted ss)
unfolding outcome
accepted-as (accepted ss) e = (ss, refl)
accepted-as (refused m j at) e = absurd (let z : ◌≡◌ {A = ℕ} 0 1 = cc in omega arith)

-- ---- `accept`

module _ (f lent : List ℕ) (count : ℕ) (a : Accepted f count) where
  answer-is : statement_answer f lent ≡ answered (length lent / 136) (accepted a.statements)
  unfolding statement_answer
  answer-is = ap (answered (length lent / 136)) a.judged

  rows_are : statement_rows f lent ≡ filled lent (accepted a.statements)
  unfolding statement_rows
  rows_are = ap (filled lent) a.judged

  module _ (l : length lent / 136 < count) where
    tested : ltb (length lent / 136) (row_count a.statements) ≡ true
    tested = lt-ltb (length lent / 136) (row_count a.statements) (omega (arith, l, a.counted))

    pub no_room : (n : ℕ) → n ≡ 16 → record { number = n; line = 0; byte = 0; rows = 0; needed = count } ≡ statement_answer f lent
    unfolding answered
    no_room n e = rw e (sym (answer-is ∙ pick_true _ _ tested ∙ ap needs (sym a.counted)))

    pub left_alone : lent ≡ statement_rows f lent
    unfolding filled
    left_alone = sym (rows_are ∙ pick_true _ _ tested)

  module _ (l : count ≤ length lent / 136) where
    enough : ltb (length lent / 136) (row_count a.statements) ≡ false
    enough = le-ltb (length lent / 136) (row_count a.statements) (omega (arith, l, a.counted))

    pub has_room : accepted_as count ≡ statement_answer f lent
    unfolding answered
    has_room = sym (answer-is ∙ pick-false _ _ enough ∙ ap accepted_as (sym a.counted))

    said : records_in f ≡ saids (things a.statements)
    unfolding judge_file
    said = ((exact record_spots (records_in f) a.statements).0 a.judged).read

    pub can-fill : Putable in_file f (length lent)
    can-fill =
        record {
          things = things a.statements;
          read = file-all f ∙ said;
          proper = records-sound f (things a.statements) said (things-known a.statements);
          room = omega (arith, l, a.counted);
        }

    pub filled-rows : (o : List ℕ) → PutAll in_file f lent o → o ≡ statement_rows f lent
    unfolding filled
    filled-rows o p =
        p.by (things a.statements) (file-all f ∙ said)
        ∙ rw (file-puts (things a.statements)) (sym (rows_are ∙ pick-false _ _ enough))

pub ruleset accepting = (no_room, left_alone, has_room, can-fill, filled-rows)

-- ---- `read_statements`: m is what the file was judged to be

module _ (f lent : List ℕ) (m : Result ℕ Fault) (t : Tells (length (records_in f)) (judge_file f) m) where
  module _ (r : Fault) (q : m ≡ Err r) where
    refused-so : judge_file f ≡ refused (number_of r.flaw.0) r.behind r.flaw.1
    refused-so = refused_as (judge_file f) (number_of r.flaw.0) r.behind r.flaw.1 (rw q at t)

    pub refused-inside : length f < 18446744073709551616 → 130 * r.behind + r.flaw.1 < 18446744073709551616
    refused-inside l = omega (arith, file-placed f (number_of r.flaw.0) r.behind r.flaw.1 refused-so)

    pub refused-told : (a : StatementAnswer) → a ≡ refused_at (number_of r.flaw.0) r.behind r.flaw.1 → a ≡ statement_answer f lent
    unfolding statement_answer answered
    refused-told a e = rw (refused-so, e) refl

    pub refused-kept : lent ≡ statement_rows f lent
    unfolding statement_rows filled
    refused-kept = rw refused-so refl

  pub accepted-told : (count : ℕ) → m ≡ Ok count → Accepted f count
  unfolding judge_file
  accepted-told count q =
      let (n, e) : Tells (length (records_in f)) (judge_file f) (Ok count) = rw q at t in
      let (ss, s) = accepted-as (judge_file f) e in
      record { statements = ss; judged = s; counted = n ∙ counted record_spots (records_in f) ss s }

pub ruleset answering = (refused-inside, refused-told, refused-kept, accepted-told)
