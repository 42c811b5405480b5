-- The text by what a pass over the file came to, and by the sheets' lines. Assumes nothing.
use Rattle.std.specs.Prelude.{ℕ, List, ◌++◌, Err, Result, Ok}
use Rattle.listing.specs.declared.Telling.{Telling}
use Rattle.listing.specs.Listed.{listed}
use Rattle.why.specs.declared.Finding.{Finding}
use Rattle.tracing.specs.declared.file.Tallied.{Tallied}
use Rattle.findings.specs.Findings.{findings}
use Rattle.explain.specs.Explanation.{refused_heading, accepted_heading}

-- the heading
abbrev pub heading_in : ℕ → Result Tallied Finding → List ℕ
heading_in letter (Err x) = refused_heading letter
heading_in letter (Ok p) = accepted_heading letter p.rows p.warnings

-- all of it
abbrev pub text_in : Telling → List ℕ → Result Tallied Finding → List ℕ → List ℕ
text_in t f o lines = heading_in t.sheet.letter o ++ (listed t f (findings t.sheet t.today f) ++ lines)
