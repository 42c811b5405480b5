-- How long the whole line of an item is. Assumes nothing.
use mathlib.Core.Path.{◌≡◌, sym, ap, ◌∙◌}
use mathlib.Core.List.{List}
use Prim.Native.Nat.{ℕ, ◌+◌}
use native.Mathlib.Omega.{arith}
use lib.ListN.{length, length-append}
use Rattle.sheet.specs.declared.Sheet.{Sheet}
use Rattle.paper.specs.ItemLine.{spell_tail, spell_item}
use Rattle.text.specs.extent.Four.{four}
use Rattle.rows.specs.declared.read.ItemRow.{ItemRow}
use Rattle.rows.specs.read.Told.{text_of_span, item_of}
use Rattle.spelling.specs.itemlen.Front.{front}
use Rattle.spelling.proofs.itemlen.Tails.{item-is}

-- item_len: i and j are what its two callees answered, a to n what was cut
pub item-long : (sh : Sheet) (t : List ℕ) (x : ItemRow) (a b c d n : List ℕ) (i j : ℕ) → i ≡ length (front x) → j ≡ length (spell_tail sh x.specific (four a b c d) n)
    → a ≡ text_of_span t x.part1 → b ≡ text_of_span t x.part2 → c ≡ text_of_span t x.part3 → d ≡ text_of_span t x.part4 → n ≡ text_of_span t x.name
    → i + j ≡ length (spell_item sh (item_of t x))
item-long sh t x a b c d n i j e f ea eb ec ed en =
    let tail = spell_tail sh x.specific (item_of t x).parts (item_of t x).name in
    let g : j ≡ length tail = f ∙ rw (ea, eb, ec, ed, en) in
    sym (ap length (item-is sh t x) ∙ length-append (front x) tail ∙ omega arith)
