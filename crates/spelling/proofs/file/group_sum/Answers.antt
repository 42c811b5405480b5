-- `group_sum` meets its contract: the sum so far and that of the rows that are left are the whole. Assumes nothing.
use Rattle.std.proofs.Common.{◌≡◌, ◌+◌, ◌-◌, ◌*◌, ◌<◌, ◌≤◌, length, arith, rules}
use Rattle.spelling.proofs.file.Sum.{sum-next, sum_fits, sum-stop, sum-last}
use Rattle.spelling.proofs.file.group_sum.Goals as goal

pub returns-then-word_at-ne3 : goal.returns-then-word_at-ne3
returns-then-word_at-ne3 c =
    let here : 192 ≤ length c.args.rows.now - (c.args.from + c.loop-i.i * 192) = omega arith in
    search sum-stop

pub overflow_add-sum : goal.overflow_add-sum
overflow_add-sum c =
    let here : 192 ≤ length c.args.rows.now - (c.args.from + c.loop-i.i * 192) = omega arith in
    search (sum_fits, rules)

pub loop-i-preserved : goal.loop-i-preserved
loop-i-preserved c =
    let here : 192 ≤ length c.args.rows.now - (c.args.from + c.loop-i.i * 192) = omega arith in
    let next : c.args.from + (c.loop-i.i + 1) * 192 ≡ c.args.from + c.loop-i.i * 192 + 192 = omega arith in
    rw next (search sum-next)

pub returns : goal.returns
returns c =
    let none : length c.args.rows.now - (c.args.from + c.loop-i.i * 192) < 192 = omega arith in
    search sum-last
