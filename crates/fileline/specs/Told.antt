-- What the answer of the line's reader stands for in document 01, "Lines" and "Numbers returned". Assumes nothing.
use Rattle.std.specs.Prelude.{Result, Ok, Err}
use Rattle.refusal.specs.declared.Flaw.{Flaw}
use Rattle.refusal.specs.Numbers.{number_of}
use Rattle.paper.specs.Entries.{file, Listed, plain, no}
use Rattle.fileline.specs.declared.AccountFile.{AccountFile}

-- kind and number of an account file; or the refusal's number and its offset in the line
abbrev pub told : Result AccountFile Flaw → Listed
told (Ok f) = plain (file f.kind f.number)
told (Err x) = no (number_of x.0) x.1
