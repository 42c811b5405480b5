-- The loop of `follow`: judging of the lines passed comes to where the pass stands, and there is less to go. Assumes nothing.
use borrow.Author.Rules.{rules}
use Rattle.tracing.proofs.file.Reaching.{reaches}
use Rattle.tracing.proofs.file.Stepping.{steps}
use Rattle.tracing.proofs.file.follow.Goals as goal

pub loop-at-init : goal.loop-at-init
loop-at-init c = search (reaches, steps, rules)

pub step-requires : goal.step-requires
step-requires c = search (reaches, steps, rules)

pub loop-at-smaller : goal.loop-at-smaller
loop-at-smaller c = search (reaches, steps, rules)

pub loop-at-preserved : goal.loop-at-preserved
loop-at-preserved c = search (reaches, steps, rules)

pub returns-in-Break : goal.returns-in-Break
returns-in-Break c = search (reaches, steps, rules)

pub at_end-requires : goal.at_end-requires
at_end-requires c = search (reaches, steps, rules)

pub returns : goal.returns
returns c = search (reaches, steps, rules)
