-- `sheet_by` names the sheet as document 01 does.
use Rattle.base.specs.Pick.{pick}
use Rattle.base.proofs.Cases.{picks}
use Rattle.sheet.specs.Sheets.{sheet_by}
use Rattle.sheet.proofs.sheet_by.Goals as goal

pub returns-in-75 : goal.returns-in-75
unfolding sheet_by
returns-in-75 c = search picks depth 8

pub returns-in-83 : goal.returns-in-83
unfolding sheet_by pick
returns-in-83 c = simp c.in-83.is

pub returns-in-67 : goal.returns-in-67
unfolding sheet_by pick
returns-in-67 c = simp c.in-67.is

pub returns-in-69 : goal.returns-in-69
unfolding sheet_by pick
returns-in-69 c = simp c.in-69.is

pub returns-in-80 : goal.returns-in-80
unfolding sheet_by pick
returns-in-80 c = simp c.in-80.is

pub returns-in_default : goal.returns-in_default
unfolding sheet_by
returns-in_default c = search picks depth 8
