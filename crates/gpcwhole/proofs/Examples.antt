-- Worked statements: sums, the order of the rules and the places of refusals, computed from the definitions. Document 02, W-204. Assumes nothing.
use mathlib.Core.Path.{◌≡◌, refl}
use mathlib.Core.Bool.{false}
use mathlib.Core.List.{List, [], ◌∷◌, ◌++◌}
use Prim.Native.Nat.{ℕ}
use Prim.Native.String.{String}
use Rattle.base.specs.Pick.{pick}
use Rattle.base.specs.Seek.{starts}
use Rattle.paper.specs.Read.{given}
use Rattle.paper.specs.Bytes.{bytes, is_digit, null}
use Rattle.paper.specs.Numerals.{digits, digits_on, fixed, fixed_on}
use Rattle.paper.specs.Accounts.{account}
use Rattle.paper.specs.Entries.{on_field}
use Rattle.paper.specs.Words.{word_of, word_bytes, blanks, words_bytes}
use Rattle.paper.specs.Writing.{refusal}
use Rattle.gpc.specs.Parts.{or51, pieces_on, pieces}
use Rattle.gpc.specs.Internal.{taken, internal, edited, account_of, read_internal, spell_internal}
use Rattle.gpc.specs.Signed.{signed, is_difference, above, below, side, read_digits, read_minus, on_signed, spell_signed, negative, signed_word, word_signed}
use Rattle.gpc.specs.Turnovers.{is_code, part, total, is_debit, is_credit, balanced}
use Rattle.gpc.specs.Records.{read_code, read_head, read_movement, crlf, read_record, read_records, records_in, spell_head, spell_movement, spell, spells}
use Rattle.gpc.specs.Statements.{movement_things, things, moves_of, closed, on_said, with, judge_on, judge}
use Rattle.gpc.specs.Canonical.{canon}
use Rattle.gpc.specs.StatementRows.{head_in, movement_in, thing_in, things_on, things_in, test, account_test, signed_test, head_tested, movement_tested, tested, testeds, head_row, movement_row}
use Rattle.gpc.specs.Answers.{refused_at, accepted_as, answered, judge_file, statement_answer, draft_of, judge_rows, statement_draft}

-- 128 bytes and their line end
abbrev record_of : String → List ℕ
record_of s = bytes s ++ crlf

-- movements of 19-19: 35.00 taken off, 10.00 put in, and 10.00 of the first brought back
abbrev debit : List ℕ
debit = record_of "0759010000000000019570000000000000000000000000010000000035001000000004200000005580000000000310126ICE                 00203310126"

abbrev credit : List ℕ
credit = record_of "0759010000000000019570000000000000000000000000010000000010002000000004200000005580000000000310126ICE                 00203310126"

abbrev reversed : List ℕ
reversed = record_of "0759010000000000019570000000000000000000000000010000000010004000000004200000005580000000000310126ICE                 00203310126"

-- heads of 19-19, of which the first agrees with the first two movements: old balance 1000.00, new 975.00, debit 35.00, credit 10.00
abbrev good : List ℕ
good = record_of "0749010000000000019POND FIRM           01012600000000100000+00000000097500+000000000035000000000000010000001310126              "

abbrev debit-off : List ℕ
debit-off = record_of "0749010000000000019POND FIRM           01012600000000100000+00000000097500+000000000035010000000000010000001310126              "

abbrev credit-off : List ℕ
credit-off = record_of "0749010000000000019POND FIRM           01012600000000100000+00000000097500+000000000035000000000000010010001310126              "

abbrev new-off : List ℕ
new-off = record_of "0749010000000000019POND FIRM           01012600000000100000+00000000097501+000000000035000000000000010000001310126              "

abbrev all-off : List ℕ
all-off = record_of "0749010000000000019POND FIRM           01012600000000100000+00000000097501+000000000035010000000000010010001310126              "

-- .. and with a byte that is no digit in its new balance
abbrev unread : List ℕ
unread = record_of "0749010000000000019POND FIRM           01012600000000100000+x0000000097500+000000000035000000000000010000001310126              "

-- .. and with what a reversal leaves: debit 25.00, no credit
abbrev less : List ℕ
less = record_of "0749010000000000019POND FIRM           01012600000000100000+00000000097500+000000000025000000000000000000001310126              "

-- two faults in one record: a sign and a turnover; the other account and a code of document 001
abbrev twice : List ℕ
twice = record_of "0749010000000000019POND FIRM           01012600000000100000x00000000097500+x00000000035000000000000010000001310126              "

abbrev twice-moved : List ℕ
twice-moved = record_of "0759010000000000019x70000000000000000000000000010000000035003000000004200000005580000000000310126ICE                 00203310126"

-- room for six rows
abbrev room : List ℕ
room = blanks 816

-- sums that agree: by debit and credit, by a reversal, and of two statements, each begun anew
pub worked : (statement_answer (good ++ (debit ++ credit)) room ≡ accepted_as 3)
    × (statement_answer (less ++ (debit ++ reversed)) room ≡ accepted_as 3)
    × (statement_answer (good ++ (debit ++ (credit ++ (less ++ (debit ++ reversed))))) room ≡ accepted_as 6)
unfolding or51 pieces_on pieces taken internal edited account_of read_internal spell_internal signed is_difference above below side read_digits read_minus on_signed spell_signed negative signed_word word_signed is_code part total is_debit is_credit balanced read_code read_head read_movement read_record read_records records_in spell_head spell_movement spell spells movement_things things moves_of closed on_said with judge_on judge canon head_in movement_in thing_in things_on things_in test account_test signed_test head_tested movement_tested tested testeds head_row movement_row answered judge_file statement_answer draft_of judge_rows statement_draft word_of word_bytes words_bytes blanks digits digits_on fixed fixed_on given on_field is_digit null starts pick
worked = (refl, refl, refl)

-- the place of what differs: debit first, then credit, then the new balance; and of the second statement
pub differing : (statement_answer (debit-off ++ (debit ++ credit)) room ≡ refused_at 52 0 75)
    × (statement_answer (credit-off ++ (debit ++ credit)) room ≡ refused_at 52 0 90)
    × (statement_answer (new-off ++ (debit ++ credit)) room ≡ refused_at 53 0 60)
    × (statement_answer (all-off ++ (debit ++ credit)) room ≡ refused_at 52 0 75)
    × (statement_answer (good ++ (debit ++ (credit ++ (credit-off ++ (debit ++ credit))))) room ≡ refused_at 52 3 90)
unfolding or51 pieces_on pieces taken internal edited account_of read_internal spell_internal signed is_difference above below side read_digits read_minus on_signed spell_signed negative signed_word word_signed is_code part total is_debit is_credit balanced read_code read_head read_movement read_record read_records records_in spell_head spell_movement spell spells movement_things things moves_of closed on_said with judge_on judge canon head_in movement_in thing_in things_on things_in test account_test signed_test head_tested movement_tested tested testeds head_row movement_row answered judge_file statement_answer draft_of judge_rows statement_draft word_of word_bytes words_bytes blanks digits digits_on fixed fixed_on given on_field is_digit null starts pick
differing = (refl, refl, refl, refl, refl)

-- sums come before the next head's fields and behind its length; a line end is CR LF; a movement before any head, and no record
pub order : (statement_answer (new-off ++ (debit ++ (credit ++ unread))) room ≡ refused_at 53 0 60)
    × (statement_answer (good ++ (debit ++ (credit ++ unread))) room ≡ refused_at 51 3 60)
    × (statement_answer (new-off ++ (debit ++ (credit ++ bytes "074"))) room ≡ refused_at 50 3 0)
    × (statement_answer (good ++ (bytes "0759010000000000019570000000000000000000000000010000000035001000000004200000005580000000000310126ICE                 00203310126" ++ (10 ∷ 13 ∷ []))) room ≡ refused_at 50 1 0)
    × (statement_answer (debit ++ good) room ≡ refused_at 50 0 0)
    × (statement_answer [] room ≡ refused_at 50 0 0)
unfolding or51 pieces_on pieces taken internal edited account_of read_internal spell_internal signed is_difference above below side read_digits read_minus on_signed spell_signed negative signed_word word_signed is_code part total is_debit is_credit balanced read_code read_head read_movement read_record read_records records_in spell_head spell_movement spell spells movement_things things moves_of closed on_said with judge_on judge canon head_in movement_in thing_in things_on things_in test account_test signed_test head_tested movement_tested tested testeds head_row movement_row answered judge_file statement_answer draft_of judge_rows statement_draft word_of word_bytes words_bytes blanks digits digits_on fixed fixed_on given on_field is_digit null starts pick
order = (refl, refl, refl, refl, refl, refl)

-- of two faults in a record the left one is told
pub leftmost : (statement_answer twice room ≡ refused_at 51 0 59) × (statement_answer (good ++ twice-moved) room ≡ refused_at 51 1 19)
unfolding or51 pieces_on pieces taken internal edited account_of read_internal spell_internal signed is_difference above below side read_digits read_minus on_signed spell_signed negative signed_word word_signed is_code part total is_debit is_credit balanced read_code read_head read_movement read_record read_records records_in spell_head spell_movement spell spells movement_things things moves_of closed on_said with judge_on judge canon head_in movement_in thing_in things_on things_in test account_test signed_test head_tested movement_tested tested testeds head_row movement_row answered judge_file statement_answer draft_of judge_rows statement_draft word_of word_bytes words_bytes blanks digits digits_on fixed fixed_on given on_field is_digit null starts pick
leftmost = (refl, refl)

-- ---- rows

-- a head of 19-19 with these balances and turnovers, and the two movements
abbrev head-row : ℕ → ℕ → ℕ → List ℕ
head-row new debit credit =
    head_row
    record {
      account = account 19 19;
      before = blanks 26;
      old = record { minus = false; size = 100000 };
      new = record { minus = false; size = new };
      debit = record { minus = false; size = debit };
      credit = record { minus = false; size = credit };
      behind = blanks 23;
    }

abbrev movement-row : ℕ → ℕ → List ℕ
movement-row code amount =
    movement_row
    record {
      account = account 19 19;
      other = account 0 705;
      before = blanks 13;
      amount = amount;
      code = code;
      variable = 42;
      behind = blanks 57;
    }

abbrev both : List ℕ
both = movement-row 1 3500 ++ movement-row 2 1000

-- the words of a row that are refused, in the same order
pub refused-rows : (statement_draft (head-row 97500 3501 1000 ++ both) ≡ refusal 52 1 5)
    × (statement_draft (head-row 97500 3500 1001 ++ both) ≡ refusal 52 1 6)
    × (statement_draft (head-row 97501 3500 1000 ++ both) ≡ refusal 53 1 4)
    × (statement_draft (head-row 97500 3500 100000000000000 ++ both) ≡ refusal 51 1 6)
    × (statement_draft (head-row 97500 3500 1000 ++ movement-row 3 3500) ≡ refusal 51 2 6)
    × (statement_draft both ≡ refusal 50 1 0)
unfolding or51 pieces_on pieces taken internal edited account_of read_internal spell_internal signed is_difference above below side read_digits read_minus on_signed spell_signed negative signed_word word_signed is_code part total is_debit is_credit balanced read_code read_head read_movement read_record read_records records_in spell_head spell_movement spell spells movement_things things moves_of closed on_said with judge_on judge canon head_in movement_in thing_in things_on things_in test account_test signed_test head_tested movement_tested tested testeds head_row movement_row answered judge_file statement_answer draft_of judge_rows statement_draft word_of word_bytes words_bytes blanks digits digits_on fixed fixed_on given on_field is_digit null starts pick
refused-rows = (refl, refl, refl, refl, refl, refl)
