-- `read_head`: the words are those of the definition. They are too many for one search, so each is looked for by itself. Assumes nothing.
use borrow.Author.Rules.{rules}
use Rattle.record.proofs.row.Words.{head-words}
use Rattle.record.proofs.row.read_head.Goals as goal

pub returns : goal.returns
returns c = record {
  result_value = head-words _ c.head_tested.result _ _ _ _ _ _
      c.head_tested.ensures.result_value
      (search rules)
      (search rules)
      _ _ _ _
      c.in_word-old.ensures
      (search rules)
      c.in_word-new.ensures
      (search rules)
      c.in_word-debit.ensures
      (search rules)
      c.in_word-credit.ensures
      (search rules);
  small_head_read = search rules;
  fits_head_read = search rules;
}
