-- What the answer of `close_line` stands for in document 01, "Lines" and "Numbers returned". Assumes nothing.
use Rattle.std.specs.Prelude.{Result, Ok, Err}
use Rattle.refusal.specs.declared.Flaw.{Flaw}
use Rattle.refusal.specs.Numbers.{number_of}
use Rattle.paper.specs.Entries.{Entry, Listed, plain, no}

-- the entry e, with no warning; or the number of the refusal and its place
abbrev pub told : Entry → Result (Unit {0}) Flaw → Listed
told e (Ok done) = plain e
told e (Err x) = no (number_of x.0) x.1
