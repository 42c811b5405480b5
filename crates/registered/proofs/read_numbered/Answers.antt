-- `read_numbered` meets its contract: refused, accepted with room and marked, or accepted without room. Assumes nothing.
use mathlib.Core.Path.{◌∙◌}
use borrow.Author.Rules.{rules}
use Rattle.registered.proofs.Answers.{accepted-long, accepted, accepted-rows, marks-none, marks-all, answers}
use Rattle.registered.proofs.read_numbered.Goals as goal

pub accept-answer-requires : goal.accept-answer-requires
accept-answer-requires c = search (answers, rules)

pub store-requires : goal.store-requires
store-requires c = accepted-long _ _ c.load-reg.ensures.result_value _ c.requires.0 c.requires.2 _ c.requires.1 _ c.args.rows.now _ c.judge_file.ensures _ c.in-Ok.is

pub returns-in-Err : goal.returns-in-Err
returns-in-Err c = record { result_value = search answers; rows_after = search answers; register_after = search answers }

pub returns-then-answer-eq0 : goal.returns-then-answer-eq0
returns-then-answer-eq0 c = let loaded = c.load-reg.ensures.result_value in
    let judged = c.judge_file.ensures in record {
      result_value = accepted _ _ loaded _ c.requires.0 c.requires.2 _ c.requires.1 _ c.args.rows.now _ judged _ c.in-Ok.is _ _ c.accept-answer.ensures.result_value;
      rows_after = accepted-rows _ _ loaded _ c.requires.0 c.requires.2 _ c.requires.1 _ c.args.rows.now _ judged _ c.in-Ok.is _ c.accept-answer.ensures.rows_after;
      register_after = c.store.ensures ∙ marks-all _ _ loaded _ c.requires.0 c.requires.2 _ c.requires.1 _ c.args.rows.now _ judged _ c.in-Ok.is _ _ c.accept-answer.ensures.result_value c.if-answer-eq0.true;
    }

pub returns-else-answer-eq0 : goal.returns-else-answer-eq0
returns-else-answer-eq0 c = let loaded = c.load-reg.ensures.result_value in
    let judged = c.judge_file.ensures in record {
      result_value = accepted _ _ loaded _ c.requires.0 c.requires.2 _ c.requires.1 _ c.args.rows.now _ judged _ c.in-Ok.is _ _ c.accept-answer.ensures.result_value;
      rows_after = accepted-rows _ _ loaded _ c.requires.0 c.requires.2 _ c.requires.1 _ c.args.rows.now _ judged _ c.in-Ok.is _ c.accept-answer.ensures.rows_after;
      register_after = marks-none _ _ loaded _ c.requires.0 c.requires.2 _ c.requires.1 _ c.args.rows.now _ judged _ c.in-Ok.is _ _ c.accept-answer.ensures.result_value c.if-answer-eq0.false;
    }
