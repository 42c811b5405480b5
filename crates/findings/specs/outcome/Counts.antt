-- What is counted in what a file came to. Assumes nothing.
use Rattle.std.specs.Prelude.{ℕ, Err, Result, Ok}
use Rattle.why.specs.declared.Finding.{Finding}
use Rattle.tracing.specs.declared.file.Tallied.{Tallied}

-- how many findings there are
abbrev pub count_in : Result Tallied Finding → ℕ
count_in (Err x) = 1
count_in (Ok p) = p.warnings

-- 1 where the file is refused
abbrev pub refused_in : Result Tallied Finding → ℕ
refused_in (Err x) = 1
refused_in (Ok p) = 0
