-- What the fields taken from an item's line stand for. Document 01, "The batch", "Lines" and "Numbers returned". Assumes nothing.
use Rattle.std.specs.Prelude.{ℕ, ◌≤◌, List}
use Rattle.paper.specs.Accounts.{account}
use Rattle.paper.specs.Batch.{Item, most14}
use Rattle.paper.specs.Entries.{item, Counted, said}
use Rattle.paper.specs.ItemLine.{part_bytes, places}
use Rattle.text.specs.declared.span.Span.{Span}
use Rattle.text.specs.declared.span.Spans.{Spans}
use Rattle.text.specs.span.Held.{piece_at, texts_at, Held}
use Rattle.itemline.specs.declared.Fields.{Fields}

-- no message and no name
abbrev none : Span
none = record { at = 0; len = 0 }

abbrev pub no_spans : Spans
no_spans = record { part1 = none; part2 = none; part3 = none; part4 = none; name = none; warnings = 0 }

-- the item of these fields, its texts at their places in the line s
abbrev pub item_at : List ℕ → Fields → Item
item_at s f =
    record {
      payer = account f.payerprefix f.payerbase;
      payee = account f.payeeprefix f.payeebase;
      bank = f.bank;
      amount = f.amount;
      variable = f.variable;
      specific = f.specific;
      constant = f.constant;
      priority = f.priority;
      parts = part_bytes (texts_at s f.texts);
      name = (piece_at s f.texts.name).bytes;
    }

-- the item, its warnings and the places of its texts
abbrev pub told : List ℕ → Fields → Counted
told s f = said (item (item_at s f)) f.warnings (places (texts_at s f.texts))

-- its texts lie in the line, its amount has 14 digits at most, and each text and the priority warn once at most
pub record Sound (s : List ℕ) (f : Fields) : Type 0 where
  pub held : Held s f.texts
  pub low : f.amount ≤ most14
  pub few : f.warnings ≤ 6
