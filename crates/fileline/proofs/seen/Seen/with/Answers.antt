-- `Seen::with` meets its contract: one bit of one word is set, and no other changes. Assumes nothing.
use mathlib.Core.Path.{◌≡◌}
use native.Mathlib.Omega.{arith}
use lib.ListN.{length}
use borrow.Author.Rules.{rules}
use Rattle.fileline.proofs.seen.Laws.{added}
use Rattle.fileline.proofs.seen.Seen.with.Goals as goal

pub returns : goal.returns
returns c =
    let long : length c.args.self.words ≡ 16 = search rules in
    record {
      marked = (added c.args.self.words c.args.n (omega arith)).0;
      by_index = (added c.args.self.words c.args.n (omega arith)).1;
    }
