-- `all_zero` answers as its definition does: the test at each byte.
use Rattle.std.proofs.Common.{◌∙◌, eqb, rules, tests}
use Rattle.std.proofs.lemmas.Iterator.{YieldsList-from_slice}
use Rattle.std.proofs.lemmas.Iterator.Search.{all_from_yields_List}
use Rattle.account.proofs.Bytes.{all-listed}
use Rattle.account.proofs.all_zero.Goals as goal

pub returns : goal.returns
returns c =
    let f = c.args.f.now in
    all_from_yields_List (λ b. eqb b 48) _ _ _ c.all.ensures.ran (YieldsList-from_slice f cc) (λ x b q k. search (rules, tests)) ∙ all-listed f
