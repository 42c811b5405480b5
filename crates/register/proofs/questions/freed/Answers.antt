-- `freed` meets its contract: one bit of one word is taken off, and no other changes. Assumes nothing.
use mathlib.Core.Path.{◌≡◌}
use native.Mathlib.Omega.{arith}
use lib.ListN.{length}
use Rattle.register.proofs.questions.Marking.{set-off}
use borrow.Author.Rules.{rules}
use Rattle.register.proofs.questions.freed.Goals as goal

pub returns : goal.returns
returns c = let long : length c.args.set.words ≡ 16 = search rules in
    set-off _ _ (omega arith) c.requires.n_value
