-- `put_word` meets its contract: stores one after another. Assumes nothing.
use mathlib.Core.Path.{refl}
use native.Mathlib.Numerals.{towards_suc}
use native.Mathlib.Omega.{arith}
use lib.ListN.{length-set}
use Rattle.base.proofs.Put.{put-sets}
use Rattle.paper.specs.Words.{word_bytes}
use Rattle.out.proofs.word.put_word.Goals as goal

pub bounds-rows-at-2 : goal.bounds-rows-at-2
bounds-rows-at-2 c = simp length-set (omega arith)

pub bounds-rows-at-3 : goal.bounds-rows-at-3
bounds-rows-at-3 c = simp length-set (omega arith)

pub bounds-rows-at-4 : goal.bounds-rows-at-4
bounds-rows-at-4 c = simp length-set (omega arith)

pub bounds-rows-at-5 : goal.bounds-rows-at-5
bounds-rows-at-5 c = simp length-set (omega arith)

pub bounds-rows-at-6 : goal.bounds-rows-at-6
bounds-rows-at-6 c = simp length-set (omega arith)

pub bounds-rows-at-7 : goal.bounds-rows-at-7
bounds-rows-at-7 c = simp length-set (omega arith)

pub bounds-rows-at-8 : goal.bounds-rows-at-8
bounds-rows-at-8 c = simp length-set (omega arith)

pub shape_of-rows : goal.shape_of-rows
shape_of-rows c = simp length-set

pub returns : goal.returns
unfolding word_bytes
returns c = record { room = omega arith; next = refl; left = simp towards_suc (put-sets c.args.rows.now c.args.at (word_bytes 8 c.args.x) (omega arith)) }
