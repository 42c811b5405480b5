-- `fill_file` meets its contract: the lines put so far and those of the rows that are left are the whole. Assumes nothing.
use Rattle.std.proofs.Common.{◌≡◌, ◌+◌, ◌-◌, ◌*◌, ◌<◌, ◌≤◌, length, arith, rules}
use Rattle.spelling.proofs.file.Going.{going-first, going_more, going_end, rows-turn}
use Rattle.spelling.proofs.file.fill_file.Goals as goal

pub loop-i-init : goal.loop-i-init
loop-i-init c = search going-first

pub loop-i-preserved : goal.loop-i-preserved
loop-i-preserved c =
    let here : 192 ≤ length c.args.rows.now - c.loop-i.i * 192 = omega arith in
    let next : (c.loop-i.i + 1) * 192 ≡ c.loop-i.i * 192 + 192 = omega arith in
    rw next (search going_more)

pub end_file-requires : goal.end_file-requires
end_file-requires c =
    let none : length c.args.rows.now - c.loop-i.i * 192 < 192 = omega arith in
    search (rows-turn, rules)

pub returns : goal.returns
returns c =
    let none : length c.args.rows.now - c.loop-i.i * 192 < 192 = omega arith in
    search going_end
