-- What a pass came to says what is found, how much of it, and the verdict. Assumes nothing.
use Rattle.std.proofs.Common.{Err, Result, Ok, Some}
use mathlib.Core.Path.{◌≡◌, refl, sym, ◌∙◌}
use mathlib.Core.Bool.{true}
use mathlib.Core.List.{List, [], ◌∷◌}
use Prim.Native.Nat.{ℕ}
use native.Mathlib.Omega.{arith}
use lib.ListN.{length}
use Rattle.base.specs.Pick.{pick}
use Rattle.sheet.specs.declared.Sheet.{Sheet}
use Rattle.sheet.specs.Sheets.{sheet_of}
use Rattle.paper.specs.Days.{real_day}
use Rattle.paper.specs.Judge.{judge}
use Rattle.paper.specs.Reading.{read_with}
use Rattle.numeral.specs.counted.Counted.{Counted}
use Rattle.why.specs.declared.Finding.{Finding}
use Rattle.why.specs.Finding.{accepts}
use Rattle.why.specs.Warned.{warned_in}
use Rattle.why.proofs.Warned.{as_many}
use Rattle.listing.specs.declared.Telling.{Telling}
use Rattle.listing.specs.Listed.{spelled, listed}
use Rattle.listing.proofs.Putting.{listed-one, none-put}
use Rattle.tracing.specs.declared.file.Tallied.{Tallied}
use Rattle.tracing.specs.file.Comes.{Comes}
use Rattle.verdict.specs.declared.Verdict.{Verdict}
use Rattle.verdict.specs.Told.{verdict_of, verdict_in}
use Rattle.verdict.proofs.Laws.{comes-verdict}
use Rattle.findings.specs.Findings.{findings_of, findings}
use Rattle.findings.specs.outcome.Counts.{count_in, refused_in}

module _ (sh : Sheet) (today : ℕ) (f : List ℕ) where
  -- ---- the verdict, of the sheet that the number names

  pub outcome-verdict : (sheet : ℕ) → sheet_of sheet ≡ Some sh → real_day today ≡ true → (o : Result Tallied Finding) → Comes sh today f o
      → (v : Verdict) → v ≡ verdict_in o → v ≡ verdict_of (read_with (sheet_of sheet) today f (length f))
  outcome-verdict sheet named real o c v e = comes-verdict sh today f real o c v e ∙ rw named

  -- ---- how much is found

  pub outcome-count : (o : Result Tallied Finding) → Comes sh today f o → count_in o ≡ length (findings sh today f)
  unfolding findings findings_of
  outcome-count (Err x) (is, judged) = rw judged
  outcome-count (Ok p) c = rw c.judged (sym (as_many sh today f c.header c.batch p.warnings c.judged))

  pub outcome-refused : (o : Result Tallied Finding) → Comes sh today f o → refused_in o ≡ pick (accepts (judge sh today f)) 0 1
  unfolding accepts pick
  outcome-refused (Err x) (is, judged) = rw judged
  outcome-refused (Ok p) c = rw c.judged

-- ---- the findings, of what the pass was found to come to

module _ (t : Telling) (f : List ℕ) (o : Result Tallied Finding) (comes : Comes t.sheet t.today f o) where
  pub found-put : (x : Finding) → o ≡ Err x → (l l' : List ℕ) (to r : ℕ) → Counted l to (spelled t f x) l' r
      → Counted l to (listed t f (findings t.sheet t.today f)) l' r
  unfolding findings findings_of
  found-put x e l l' to r w =
      let (is, judged) : Comes t.sheet t.today f (Err x) = rw e at comes in
      rw judged (rw (← is) (rw (listed-one t f x) w))

  module _ (p : Tallied) (e : o ≡ Ok p) where
    passes : Comes t.sheet t.today f (Ok p)
    passes = rw e at comes

    warned-is : findings t.sheet t.today f ≡ warned_in t.sheet t.today f
    unfolding findings findings_of
    warned-is = rw passes.judged

    pub passed-accepted : accepts (judge t.sheet t.today f) ≡ true
    unfolding accepts
    passed-accepted = rw passes.judged

    pub passed-put : (l l' : List ℕ) (to r : ℕ) → Counted l to (listed t f (warned_in t.sheet t.today f)) l' r
        → Counted l to (listed t f (findings t.sheet t.today f)) l' r
    passed-put l l' to r w = rw warned-is w

    none : {A : Type 0} (xs : List A) → length xs ≡ 0 → xs ≡ []
    none [] z = refl
    none (x ∷ xs) z = absurd (omega arith)

    pub passed_none : p.warnings ≡ 0 → (l : List ℕ) (to : ℕ) → Counted l to (listed t f (findings t.sheet t.today f)) l to
    passed_none z l to =
        let nothing : findings t.sheet t.today f ≡ [] = none _ (sym (outcome-count t.sheet t.today f (Ok p) passes) ∙ z) in
        rw nothing (none-put t f)

pub ruleset puts = (found-put, passed-accepted, passed-put, passed_none)
