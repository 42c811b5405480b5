-- `kind_of`: an exit for each byte that is no record's, and one for each type. Assumes nothing.
use Rattle.record.specs.file.Told.{read_as}
use Rattle.record.proofs.file.Types.{types}
use Rattle.record.proofs.file.kind_of.Goals as goal

pub returns-then-s-ne13 : goal.returns-then-s-ne13
unfolding read_as
returns-then-s-ne13 c = search types

pub returns-then-s-ne10 : goal.returns-then-s-ne10
unfolding read_as
returns-then-s-ne10 c = search types

pub returns-then-s-ne48 : goal.returns-then-s-ne48
unfolding read_as
returns-then-s-ne48 c = search types

pub returns-then-s-ne55 : goal.returns-then-s-ne55
unfolding read_as
returns-then-s-ne55 c = search types

pub returns-then-s-eq52 : goal.returns-then-s-eq52
unfolding read_as
returns-then-s-eq52 c = search types

pub returns-then-s-eq53 : goal.returns-then-s-eq53
unfolding read_as
returns-then-s-eq53 c = search types

pub returns : goal.returns
unfolding read_as
returns c = search types
