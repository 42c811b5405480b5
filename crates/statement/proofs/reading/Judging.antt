-- The judging of a file, record by record: rules for a search. Assumes nothing.
use mathlib.Core.Path.{◌≡◌, ap}
use mathlib.Core.List.{List}
use Prim.Native.Nat.{ℕ, ◌+◌, ◌-◌, ◌*◌, ◌≤◌, ◌<◌}
use native.Mathlib.Omega.{arith}
use lib.ListN.{length, take, drop}
use Rattle.std.specs.Prelude.{Option, Some, Result, Ok, Err}
use Rattle.gpc.specs.Records.{read_record, records_in}
use Rattle.gpc.specs.Statements.{record_spots, top, judge}
use Rattle.gpc.specs.Answers.{judge_file}
use Rattle.record.specs.declared.Entry.{Entry}
use Rattle.record.specs.Told.{told, in_file as kept_in_file}
use Rattle.statement.specs.declared.run.Open.{Open}
use Rattle.statement.specs.declared.run.Fault.{Fault}
use Rattle.statement.specs.Forms.{in_file, read_all, Passed}
use Rattle.statement.specs.run.Follows.{AllSized, Follows, Stood, stray, wrong_as, outcome, Leads, Tells, Finishes}
use Rattle.statement.proofs.run.Leading.{stood-sized}
use Rattle.statement.proofs.Pieces.{file-all, file-short}
use Rattle.statement.proofs.Passing.{passed_first, passed-stood, passed-refused, passed_on, passed-left, passed-end}

module _ (f : List ℕ) where
  judged : judge record_spots (read_all in_file f) ≡ judge_file f
  unfolding judge_file
  judged = ap (judge record_spots) (file-all f)

  pub file-first : (x : Option Open) → Follows x top → Passed in_file record_spots f x 0 0
  file-first x h = passed_first in_file (omega arith) record_spots f x h

  module _ (x : Option Open) (at k : ℕ) (d : Passed in_file record_spots f x at k) where
    pub file-inside : at ≤ length f
    file-inside = d.inside

    pub file-stood : Stood x k
    file-stood = passed-stood in_file (omega arith) record_spots f x at k d

    pub file-sized : AllSized x
    file-sized = stood-sized x k file-stood

    pub file-few : 130 ≤ length f - at → length f < 18446744073709551616 → 130 * k + 130 ≤ 18446744073709551615
    file-few h l = omega (arith, d.place, d.inside)

    module _ (h : 130 ≤ length f - at) (e : Entry) (q : told (kept_in_file (take (at + 130 - at) (drop at f))) e ≡ read_record (take (at + 130 - at) (drop at f)))
        (m : Result Open Fault) (v : Leads record_spots x e k m) where
      size : at + 130 - at ≡ 130
      size = omega arith

      pub file-refused : (r : Fault) → m ≡ Err r → outcome (judge_file f) ≡ wrong_as r
      file-refused r i =
          rw (← judged) (passed-refused in_file (omega arith) record_spots f x at k d (omega (arith, h, d.inside)) _ e (rw size at q) m v r i)

      pub file-on : (y : Open) → m ≡ Ok y → Passed in_file record_spots f (Some y) (at + 130) (k + 1)
      file-on y r = passed_on in_file (omega arith) record_spots f x at k d (omega (arith, h, d.inside)) _ e (rw size at q) m v y r

    pub file-left : (r : Fault) → at < length f → length f - at < 130 → r ≡ stray k → outcome (judge_file f) ≡ wrong_as r
    file-left r l h i = rw (i, ← judged) (passed-left in_file (omega arith) record_spots f x at k d l (omega (arith, h, d.inside)) file-short)

    pub file-end : (r : Result ℕ Fault) → length f ≤ at → Finishes record_spots x k r → Tells (length (records_in f)) (judge_file f) r
    file-end r h g = rw (← judged, ← file-all f) (passed-end in_file (omega arith) record_spots f x at k d r h g)

pub ruleset judging = (file-first, file-inside, file-stood, file-sized, file-few, file-refused, file-on, file-left, file-end)
