-- `fill_rows`: line after line the rows stand in front of the old bytes. Assumes nothing.
use native.Mathlib.Omega.{arith}
use borrow.Author.Rules.{rules}
use Rattle.fill.proofs.file.Lines.{said-first, going-first, going-room, cut_inside, lines-turn}
use Rattle.fill.proofs.file.fill_rows.Goals as goal

pub loop-at-init : goal.loop-at-init
loop-at-init c = (omega arith, going-first _ _ _ _, said-first _ _ _ (search rules))

pub fill_line-step-requires : goal.fill_line-step-requires
fill_line-step-requires c = record { most_bound = search rules; s_value = search lines-turn; s_bound = search (cut_inside, rules); s_in_bounds = search going-room }

pub loop-at-smaller : goal.loop-at-smaller
loop-at-smaller c = omega arith

pub loop-at-preserved : goal.loop-at-preserved
loop-at-preserved c = search (lines-turn, rules)

pub shape_of-rows : goal.shape_of-rows
shape_of-rows c = search (lines-turn, rules)

pub returns : goal.returns
returns c = search lines-turn
