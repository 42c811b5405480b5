-- What a decoded row stands for: a thing of the batch, its texts cut from the lent bytes. docs/ROWS.md. Assumes nothing.
use Rattle.std.specs.Prelude.{ℕ, ◌+◌, List, [], ◌∷◌, leb, length, take, drop, Option, Some, None}
use Rattle.base.specs.Pick.{pick}
use Rattle.paper.specs.Accounts.{account}
use Rattle.paper.specs.Batch.{Item, Thing, a_file, a_group, an_item, misnumbered, strange}
use Rattle.paper.specs.Rows.{reference_proper}
use Rattle.out.specs.word.Places.{word_here}
use Rattle.text.specs.declared.span.Span.{Span}
use Rattle.rows.specs.declared.read.ItemRow.{ItemRow}
use Rattle.rows.specs.declared.read.Sides.{Sides}
use Rattle.rows.specs.declared.read.Symbols.{Symbols}
use Rattle.rows.specs.declared.read.Texts.{Texts}
use Rattle.rows.specs.declared.read.Row.{Row}
use Rattle.rows.specs.declared.read.Row.TheVariants.{File, Group, Item as AnItem}

-- the text at a place of the lent bytes t; one that lies outside is read as a byte that is no text byte, so that its field is refused
unfoldable pub text_of_span : List ℕ → Span → List ℕ
text_of_span t p = pick (leb (p.at + p.len) (length t)) (take p.len (drop p.at t)) (0 ∷ [])

-- the item of a row
abbrev pub item_of : List ℕ → ItemRow → Item
item_of t x =
    record {
      payer = account x.payerprefix x.payerbase;
      payee = account x.payeeprefix x.payeebase;
      bank = x.bank;
      amount = x.amount;
      variable = x.variable;
      specific = x.specific;
      constant = x.constant;
      priority = x.priority;
      parts = text_of_span t x.part1 ∷ text_of_span t x.part2 ∷ text_of_span t x.part3 ∷ text_of_span t x.part4 ∷ [];
      name = text_of_span t x.name;
    }

-- what an item's row says, by its reference
abbrev pub told_item : List ℕ → ItemRow → Thing
told_item t x = pick (reference_proper x.reference) (an_item (item_of t x)) (misnumbered (item_of t x))

-- what a row says
abbrev pub told_row : List ℕ → Row → Thing
told_row t (File kind number) = a_file kind number
told_row t (Group date prefix base) = a_group date (account prefix base)
told_row t (AnItem x) = told_item t x

-- .. where it may be of no known kind
abbrev pub told : List ℕ → Option Row → Thing
told t (Some r) = told_row t r
told t None = strange

-- ---- a row in lent bytes

-- the place and the length that two words are
abbrev pub span_here : List ℕ → ℕ → Span
span_here rows at = record { at = word_here rows at; len = word_here rows (at + 8) }

-- the words of an item whose row begins at a place
abbrev pub sides_here : List ℕ → ℕ → Sides
sides_here rows at =
    record {
      payerprefix = word_here rows (at + 8);
      payerbase = word_here rows (at + 16);
      payeeprefix = word_here rows (at + 24);
      payeebase = word_here rows (at + 32);
      bank = word_here rows (at + 40);
      amount = word_here rows (at + 48);
    }

abbrev pub symbols_here : List ℕ → ℕ → Symbols
symbols_here rows at =
    record {
      variable = word_here rows (at + 56);
      specific = word_here rows (at + 64);
      constant = word_here rows (at + 72);
      priority = word_here rows (at + 80);
    }

abbrev pub texts_here : List ℕ → ℕ → Texts
texts_here rows at =
    record {
      part1 = span_here rows (at + 88);
      part2 = span_here rows (at + 104);
      part3 = span_here rows (at + 120);
      part4 = span_here rows (at + 136);
      name = span_here rows (at + 152);
    }

-- the item with these words
abbrev pub item_with : Sides → Symbols → Texts → ℕ → ItemRow
item_with w y t n =
    record {
      payerprefix = w.payerprefix;
      payerbase = w.payerbase;
      payeeprefix = w.payeeprefix;
      payeebase = w.payeebase;
      bank = w.bank;
      amount = w.amount;
      variable = y.variable;
      specific = y.specific;
      constant = y.constant;
      priority = y.priority;
      part1 = t.part1;
      part2 = t.part2;
      part3 = t.part3;
      part4 = t.part4;
      name = t.name;
      reference = n;
    }

-- the item whose row begins at a place
abbrev pub item_here : List ℕ → ℕ → ItemRow
item_here rows at = item_with (sides_here rows at) (symbols_here rows at) (texts_here rows at) (word_here rows (at + 168))
