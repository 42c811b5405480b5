-- The words are those of the definition, by the places that the line gives.
use Rattle.fill.proofs.itemrow.Texts.{item-row}
use Rattle.fill.proofs.itemrow.put_item_row.Goals as goal

pub returns : goal.returns
returns c = search item-row
