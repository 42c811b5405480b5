-- Which verdict it is: 1 and 2, then what the file is judged to be; never that there is no room for rows. Assumes nothing.
use Rattle.std.proofs.Common.{Err, Result, Ok, Some}
use mathlib.Core.Path.{◌≡◌, refl, sym, ap, ◌∙◌}
use mathlib.Core.Bool.{true, false}
use mathlib.Core.List.{List}
use Prim.Native.Nat.{ℕ, ◌≤◌}
use lib.ListN.{length}
use borrow.Author.Tests.{le-ltb}
use Rattle.base.specs.Pick.{pick}
use Rattle.sheet.specs.declared.Sheet.{Sheet}
use Rattle.paper.specs.Days.{real_day}
use Rattle.paper.specs.Batch.{Batch, Header}
use Rattle.paper.specs.Judge.{Answer, Refused, Accepted, judge}
use Rattle.paper.specs.Reading.{row_count, refused_at, accepted_as, answered, read_with}
use Rattle.tally.specs.Short.{Brief, No, Yes, brief, tally}
use Rattle.tally.proofs.Short.{tally-is}
use Rattle.why.specs.declared.Finding.{Finding}
use Rattle.tracing.specs.declared.file.Tallied.{Tallied}
use Rattle.tracing.specs.file.Comes.{Comes}
use Rattle.verdict.specs.declared.Verdict.{Verdict}
use Rattle.verdict.specs.Told.{verdict_of, verdict_in}
use Rattle.verdict.proofs.Many.{count-within}

-- ---- the verdict, from the judge's answer in brief

-- a refusal's number and place, or the counts
abbrev pub in_brief : Brief → Verdict
in_brief (No n l p) = record { number = n; line = l; byte = p; rows = 0; warnings = 0 }
in_brief (Yes h n w) = record { number = 0; line = 0; byte = 0; rows = n; warnings = w }

-- room for as many rows as there are
brief-verdict : (room : ℕ) (a : Answer) → ((h : Header) (b : Batch) (w : ℕ) → a ≡ Accepted h b w → row_count b ≤ room)
    → verdict_of (answered room a) ≡ in_brief (brief a)
unfolding answered brief refused_at accepted_as pick
brief-verdict room (Refused n l p) g = refl
brief-verdict room (Accepted h b w) g = rw (le-ltb room (row_count b) (g h b w refl))

module _ (sh : Sheet) (today : ℕ) (f : List ℕ) where
  -- 16 does not come from the file
  pub judged-verdict : verdict_of (answered (length f) (judge sh today f)) ≡ in_brief (tally sh today f)
  judged-verdict = brief-verdict (length f) (judge sh today f) (count-within sh today f) ∙ ap in_brief (sym (tally-is sh today f))

  pub day-verdict : real_day today ≡ true → verdict_of (read_with (Some sh) today f (length f)) ≡ in_brief (tally sh today f)
  unfolding read_with pick
  day-verdict real = rw real judged-verdict

  pub no-day-verdict : real_day today ≡ false → verdict_of (read_with (Some sh) today f (length f)) ≡ in_brief (No 2 0 0)
  unfolding read_with refused_at pick
  no-day-verdict not = rw not

  -- o is what a pass came to, and v its verdict
  comes-brief : (o : Result Tallied Finding) → Comes sh today f o → verdict_in o ≡ in_brief (brief (judge sh today f))
  unfolding brief
  comes-brief (Err x) (is, judged) = rw judged
  comes-brief (Ok p) c = rw (c.judged, c.counted)

  pub comes-verdict : real_day today ≡ true → (o : Result Tallied Finding) → Comes sh today f o → (v : Verdict) → v ≡ verdict_in o → v ≡ verdict_of (read_with (Some sh) today f (length f))
  comes-verdict real o c v e = e ∙ (comes-brief o c ∙ (ap in_brief (sym (tally-is sh today f)) ∙ sym (day-verdict real)))
