-- What is made of words that were read in a row. Assumes nothing.
use mathlib.Core.Path.{◌≡◌, ◌∙◌}
use mathlib.Core.List.{List}
use Prim.Native.Nat.{ℕ, ◌+◌}
use Rattle.out.specs.word.Places.{word_here}
use Rattle.text.specs.declared.span.Span.{Span}
use Rattle.rows.specs.declared.read.ItemRow.{ItemRow}
use Rattle.rows.specs.declared.read.Sides.{Sides}
use Rattle.rows.specs.declared.read.Symbols.{Symbols}
use Rattle.rows.specs.declared.read.Texts.{Texts}
use Rattle.rows.specs.read.Told.{span_here, sides_here, symbols_here, texts_here, item_with, item_here}

module _ (rows : List ℕ) (at : ℕ) where
  pub span_of : (a b : ℕ) → a ≡ word_here rows at → b ≡ word_here rows (at + 8) → ◌≡◌ {A = Span} (record { at = a; len = b }) (span_here rows at)
  span_of a b p q = rw (p, q)

  pub sides-of : (a b c d e f : ℕ) → a ≡ word_here rows (at + 8) → b ≡ word_here rows (at + 16) → c ≡ word_here rows (at + 24) → d ≡ word_here rows (at + 32)
      → e ≡ word_here rows (at + 40) → f ≡ word_here rows (at + 48)
      → ◌≡◌ {A = Sides} (record { payerprefix = a; payerbase = b; payeeprefix = c; payeebase = d; bank = e; amount = f }) (sides_here rows at)
  sides-of a b c d e f p q r s t u = rw (p, q, r, s, t, u)

  pub symbols-of : (a b c d : ℕ) → a ≡ word_here rows (at + 56) → b ≡ word_here rows (at + 64) → c ≡ word_here rows (at + 72) → d ≡ word_here rows (at + 80)
      → ◌≡◌ {A = Symbols} (record { variable = a; specific = b; constant = c; priority = d }) (symbols_here rows at)
  symbols-of a b c d p q r s = rw (p, q, r, s)

  pub texts-of : (a b c d e : Span) → a ≡ span_here rows (at + 88) → b ≡ span_here rows (at + 104) → c ≡ span_here rows (at + 120) → d ≡ span_here rows (at + 136)
      → e ≡ span_here rows (at + 152) → ◌≡◌ {A = Texts} (record { part1 = a; part2 = b; part3 = c; part4 = d; name = e }) (texts_here rows at)
  texts-of a b c d e p q r s t = rw (p, q, r, s, t)

  -- an item, of its words in three parts, and its reference
  pub item_of : (w : Sides) (y : Symbols) (t : Texts) (n : ℕ) → w ≡ sides_here rows at → y ≡ symbols_here rows at → t ≡ texts_here rows at → n ≡ word_here rows (at + 168)
      → (x : ItemRow) → x ≡ item_with w y t n → x ≡ item_here rows at
  item_of w y t n p q r s x e = e ∙ rw (p, q, r, s)

pub ruleset parts = (span_of, sides-of, symbols-of, texts-of, item_of)
