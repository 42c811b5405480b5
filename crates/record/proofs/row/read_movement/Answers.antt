-- `read_movement`: the words are those of the definition. Assumes nothing.
use borrow.Author.Rules.{rules}
use Rattle.record.proofs.row.Words.{movement-words}
use Rattle.record.proofs.row.read_movement.Goals as goal

pub returns : goal.returns
returns c = record { result_value = search movement-words; small_movement_read = search rules; fits_movement_read = search rules }
