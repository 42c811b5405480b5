-- `sheet_of` names the sheet as document 01 does.
use Rattle.base.specs.Pick.{pick}
use Rattle.base.proofs.Cases.{picks}
use Rattle.sheet.specs.Sheets.{sheet_of}
use Rattle.sheet.proofs.sheet_of.Goals as goal

pub returns-in-1 : goal.returns-in-1
unfolding sheet_of
returns-in-1 c = search picks depth 8

pub returns-in-2 : goal.returns-in-2
unfolding sheet_of pick
returns-in-2 c = simp c.in-2.is

pub returns-in-3 : goal.returns-in-3
unfolding sheet_of pick
returns-in-3 c = simp c.in-3.is

pub returns-in-4 : goal.returns-in-4
unfolding sheet_of pick
returns-in-4 c = simp c.in-4.is

pub returns-in-5 : goal.returns-in-5
unfolding sheet_of pick
returns-in-5 c = simp c.in-5.is

pub returns-in_default : goal.returns-in_default
unfolding sheet_of
returns-in_default c = search picks depth 8
