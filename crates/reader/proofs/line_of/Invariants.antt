-- `line_of` passes the lines in front of the one that is asked for: what its loop knows of the reader.
use Rattle.reader.proofs.Walking.{Stands}
use Rattle.reader.proofs.line_of.Given as goal

-- the reader stands in the file, where the line of the loop's number starts
abbrev pub invariant-loop-k : goal.invariant-loop-k
invariant-loop-k l = Stands l.file l.number l.reader l._k
