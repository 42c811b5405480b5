-- What is to be said of a file, from an answer of reading or from what a pass over it came to. Document 01, "Numbers returned". Assumes nothing.
use Rattle.std.specs.Prelude.{Err, Result, Ok}
use Rattle.paper.specs.Reading.{ReadAnswer}
use Rattle.why.specs.declared.Finding.{Finding}
use Rattle.tracing.specs.declared.file.Tallied.{Tallied}
use Rattle.verdict.specs.declared.Verdict.{Verdict}

-- a refusal's number, line and byte, or the counts
abbrev pub verdict_of : ReadAnswer → Verdict
verdict_of a = record { number = a.number; line = a.line; byte = a.byte; rows = a.rows; warnings = a.warnings }

-- .. from the finding of a refused file, or the counts of an accepted one
abbrev pub verdict_in : Result Tallied Finding → Verdict
verdict_in (Err x) = record { number = x.number; line = x.line; byte = x.byte; rows = 0; warnings = 0 }
verdict_in (Ok p) = record { number = 0; line = 0; byte = 0; rows = p.rows; warnings = p.warnings }
