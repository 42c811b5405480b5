-- The words in which the demands are stated, each from the file that defines it. Assumes nothing.
pub use lib.ListN.{length}
-- the sheets and the days
pub use Rattle.sheet.specs.declared.Sheet.{Sheet}
pub use Rattle.std.specs.Prelude.{Some}
pub use Rattle.sheet.specs.Sheets.{sheet_of}
pub use Rattle.paper.specs.Days.{real_day}
-- document 01: the batch, what a file spells, its first fault, the canonical file
pub use Rattle.paper.specs.Batch.{Batch, Header}
pub use Rattle.paper.specs.Spells.{Spells}
pub use Rattle.paper.specs.Judge.{Refused}
pub use Rattle.paper.specs.FirstFault.{FirstFault}
pub use Rattle.paper.specs.Canonical.{canon}
pub use Rattle.paper.specs.FirstWrong.{AllMet, FirstWrong, proper_rules, carried_rules}
-- .. and what the contracts of the calls name: the answers of reading and of writing, and the bytes that they leave
pub use Rattle.paper.specs.Rows.{row_size, rows_in, things_in}
pub use Rattle.paper.specs.Reading.{ReadAnswer, refused_at, row_count, read_answer, rows_after}
pub use Rattle.paper.specs.Writing.{Draft, refusal, Refuses, draft, WriteAnswer, written_in, output_after}
pub use Rattle.reader.specs.Named.{line_answer}
-- an answer together with the bytes that are left
pub use Rattle.outcomes.specs.Outcomes.{ReadsAs, Hold, WritesAs}
pub use Rattle.roundtrip.specs.whole.Carries.{head_read, past_warnings}
-- when each number is given
pub use Rattle.outcomes.specs.numbers.Gives.{ReadGives, WriteGives}
-- a refusal of a file, and the line that holds its byte
pub use Rattle.exact.specs.named.Numbers.{Judged}
pub use Rattle.reader.specs.shown.Holding.{Holds}
