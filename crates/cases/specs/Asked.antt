-- The definitions of reading, writing and rewriting as the examples ask them, on 1 January 2018. To unfold one of these is to unfold all that it
-- computes with. Assumes nothing.
use Rattle.std.specs.Prelude.{ℕ, Bool, List, []}
use Prim.Native.String.{String}
use Rattle.base.specs.Pick.{pick}
use Rattle.base.specs.Seek.{all, starts, seek}
use Rattle.sheet.specs.declared.Sheet.{Sheet}
use Rattle.sheet.specs.Sheets.{sheet_of, sheet_by, kind_allowed, bank_allowed}
use Rattle.paper.specs.Read.{given}
use Rattle.paper.specs.Warnings.{Notice, notices}
use Rattle.paper.specs.Bytes.{bytes, is_text, is_clean, is_digit, null}
use Rattle.paper.specs.Numerals.{digits_on, digits, dec_on, decimal, fixed_on, fixed}
use Rattle.paper.specs.Days.{leap, month_days, real_day, years_days, months_days, day_number, real, short_day, long_day, read_day, spell_day, past, due_allowed, due_warnings, read_due, month_ahead, collect_allowed}
use Rattle.paper.specs.Terms.{collection, day_here, bank_due}
use Rattle.paper.specs.Accounts.{rest, non_zero, account_ok, ruled, two_parts, one_part, read_account, account_proper, spell_account, is_nobody, zeros, only_zeros, read_payer}
use Rattle.paper.specs.Amounts.{with_comma, read_amount, read_total, amount_proper, read_item_amount}
use Rattle.paper.specs.BankField.{ninth, read_bank, read_due_bank, bank_proper, priority_proper, priority_carried, spell_bank}
use Rattle.paper.specs.Texts.{others, cut, over, overs, pad, opens, taken, parts_taken, fitted, finish, message_end, message, marked, read_text, lacks, name_proper, part_proper, words_carried, part_carried, name_carried, keep, trim, join_on, joined, spell_name, spell_marked, spell_text, no_text}
use Rattle.paper.specs.Batch.{Header, Thing, sum, item_things, group_things, things, heap_of, batch_of}
use Rattle.paper.specs.Proper.{check, header_proper, file_due, group_due, item_due, may_stop, kind_proper, payer_proper, item_payer_proper, parts_from, item_proper, rows_proper, batch_proper}
use Rattle.paper.specs.Lines.{lines_of}
use Rattle.paper.specs.Entries.{Listed, got, no, counted, Kind, kind_of, on_field, field, place, gap, line_end, on_head, on_file, on_group, on_item, on_entry}
use Rattle.paper.specs.FirstLine.{text_field, read_to, rest_length, read_rest, read_first, spell_first}
use Rattle.paper.specs.FileLine.{member, number_fault, number_allowed, read_kind, read_number, read_code, read_file, spell_file}
use Rattle.paper.specs.GroupLine.{space_count, has_payer, total_and_date, read_group, spell_payer, spell_group}
use Rattle.paper.specs.ItemLine.{read_symbol_or_none, is_value, fixed_tail, after_symbol, open_tail, tail, from_payee, read_item, spell_tail, spell_item}
use Rattle.paper.specs.ClosingLine.{plus_at, read_close}
use Rattle.paper.specs.Spells.{for_item, number_test, read_as, read_line, item_dues, group_dues, file_dues, dues, differs, group_items, file_items}
use Rattle.paper.specs.Judge.{Answer, seen, context_of, is_due, is_full, total_broken, closed, meet, on_said, read, step, end_of, run, judge}
use Rattle.paper.specs.Words.{word_of, word_bytes, words, rows_on, blanks, words_bytes, rows_bytes, rows_of}
use Rattle.paper.specs.Rows.{text_at, reference_proper, thing_in, things_in, file_row, group_row, text_words, texts_words, item_row, entry_row, line_row, single_after, single_behind, lines_rows}
use Rattle.paper.specs.Reading.{refused_at, needs, accepted_as, answered, read_with, read_answer, filled, rows_with, rows_after}
use Rattle.paper.specs.Carried.{header_carried, parts_carried_from, item_carried, rows_carried, batch_carried}
use Rattle.paper.specs.Canonical.{spell, text_of, canon}
use Rattle.paper.specs.Writing.{Draft, on_verdict, draft_of, draft_with, draft, written_in, output_after}
use Rattle.paper.specs.Explaining.{refused_line}
use Rattle.paper.specs.Rewriting.{first_line, past_lf, behind_first, rewritten, on_day, day_field, on_sheet, on_letter, rewriting}

-- the day on which all is asked
abbrev pub today : ℕ
today = 20180101

-- a file, judged on a sheet
unfoldable pub judged : Sheet → List ℕ → Answer
unfolding pick all starts seek kind_allowed bank_allowed given is_text is_clean is_digit null digits_on digits fixed_on fixed leap month_days real_day years_days months_days day_number real short_day long_day read_day past due_allowed due_warnings read_due month_ahead collect_allowed collection day_here bank_due rest non_zero account_ok ruled two_parts one_part read_account is_nobody zeros only_zeros read_payer with_comma read_amount read_total amount_proper read_item_amount ninth read_bank read_due_bank others cut over overs pad opens taken parts_taken fitted finish message_end message marked read_text sum lines_of kind_of on_field field place gap line_end text_field read_to rest_length read_rest read_first member number_fault number_allowed read_kind read_number read_code read_file space_count has_payer total_and_date read_group read_symbol_or_none is_value fixed_tail after_symbol open_tail tail from_payee read_item plus_at read_close number_test read_as read_line differs group_items file_items seen context_of is_due is_full total_broken closed counted notices on_entry on_head on_file on_group on_item meet on_said read step end_of run judge
judged sh f = judge sh today f

-- what a line of a kind warns of in an account file of payments, in a group that is single or not
unfoldable pub warned_of : Sheet → Bool → Kind → String → List Notice
unfolding judged
warned_of sh single kind s = listed (read_as sh today (for_item 1501 today single) kind (bytes s))
  where
    listed : Listed → List Notice
    listed (got x) = x.warnings
    listed (no n off) = []

-- what stands in a batch, written with a header on a sheet
unfoldable pub written : Sheet → Header → List Thing → Draft
unfolding judged dec_on decimal spell_day account_proper spell_account bank_proper priority_proper priority_carried spell_bank lacks name_proper part_proper words_carried part_carried name_carried keep trim join_on joined spell_name spell_marked spell_text no_text item_things group_things things heap_of batch_of check header_proper file_due group_due item_due may_stop kind_proper payer_proper item_payer_proper parts_from item_proper rows_proper batch_proper spell_first spell_file spell_payer spell_group spell_tail spell_item item_dues group_dues file_dues dues header_carried parts_carried_from item_carried rows_carried batch_carried spell text_of canon on_verdict draft_of
written sh h ts = draft_of sh today h ts

-- an input, as the rewriting program rewrites it
unfoldable pub rewrites : String → List ℕ
unfolding judged written sheet_of sheet_by word_of word_bytes words rows_on rows_of text_at reference_proper thing_in things_in blanks file_row group_row text_words texts_words item_row entry_row line_row single_after single_behind lines_rows words_bytes rows_bytes refused_at needs accepted_as answered read_with read_answer filled rows_with rows_after draft_with draft written_in output_after refused_line first_line past_lf behind_first rewritten on_day day_field on_sheet on_letter rewriting
rewrites s = rewriting (bytes s)
