-- An item's line: its front and its tail, whose texts are cut from the lent bytes. Assumes nothing.
use mathlib.Core.Path.{◌≡◌, ap, ◌∙◌}
use mathlib.Core.List.{List, [], ◌∷◌, ◌++◌, append_assoc}
use Prim.Native.Nat.{ℕ, ◌+◌, ◌≤◌}
use native.Mathlib.Omega.{arith}
use lib.ListN.{length, length-append}
use Rattle.base.specs.Put.{Wrote}
use Rattle.base.proofs.Put.{◌then◌}
use Rattle.sheet.specs.declared.Sheet.{Sheet}
use Rattle.paper.specs.ItemLine.{spell_tail, spell_item}
use Rattle.text.specs.extent.Four.{four}
use Rattle.rows.specs.declared.read.ItemRow.{ItemRow}
use Rattle.rows.specs.read.Told.{text_of_span, item_of}
use Rattle.spelling.specs.itemlen.Front.{front}
use Rattle.spelling.proofs.itemlen.Tails.{item-is}
use Rattle.spelling.proofs.putlines.Chain.{whole, part, rest, wrote_as}

module _ (sh : Sheet) (t : List ℕ) (x : ItemRow) where
  abbrev tail : List ℕ
  tail = spell_tail sh x.specific (item_of t x).parts (item_of t x).name

  -- tail_end: a to n are what was cut
  module _ (a b c d n : List ℕ) (ea : a ≡ text_of_span t x.part1) (eb : b ≡ text_of_span t x.part2) (ec : c ≡ text_of_span t x.part3) (ed : d ≡ text_of_span t x.part4) (en : n ≡ text_of_span t x.name) where
    same : tail ≡ spell_tail sh x.specific (four a b c d) n
    same = rw (ea, eb, ec, ed, en)

    module _ (o : List ℕ) (at : ℕ) where
      module _ (h : at + length (tail ++ (13 ∷ 10 ∷ [])) ≤ length o) where
        pub end-tail : at + length (spell_tail sh x.specific (four a b c d) n) ≤ length o
        end-tail = omega (arith, ap length same, length-append tail (13 ∷ 10 ∷ []))

        pub end-line : (o1 : List ℕ) (p : ℕ) → Wrote o at (spell_tail sh x.specific (four a b c d) n) o1 p → p + 2 ≤ length o1
        end-line o1 p w = (rest w (whole (ap (λ (s : List ℕ). s ++ (13 ∷ 10 ∷ [])) same) h)).room

      pub then-end : {o1 o2 : List ℕ} {p q : ℕ} → Wrote o at (spell_tail sh x.specific (four a b c d) n) o1 p → Wrote o1 p (13 ∷ 10 ∷ []) o2 q → Wrote o at (tail ++ (13 ∷ 10 ∷ [])) o2 q
      then-end w v = wrote_as (ap (λ (s : List ℕ). s ++ (13 ∷ 10 ∷ [])) same) (w then v)

  -- put_item_line
  module _ (o : List ℕ) (at : ℕ) where
    line-is : spell_item sh (item_of t x) ++ (13 ∷ 10 ∷ []) ≡ front x ++ (tail ++ (13 ∷ 10 ∷ []))
    line-is = ap (λ (s : List ℕ). s ++ (13 ∷ 10 ∷ [])) (item-is sh t x) ∙ append_assoc (front x) tail (13 ∷ 10 ∷ [])

    module _ (h : at + length (spell_item sh (item_of t x) ++ (13 ∷ 10 ∷ [])) ≤ length o) where
      pub line-front : at + length (front x) ≤ length o
      line-front = (part {o = o} (front x) _ (whole line-is h)).room

      pub line-tail : (o1 : List ℕ) (p : ℕ) → Wrote o at (front x) o1 p → p + length (tail ++ (13 ∷ 10 ∷ [])) ≤ length o1
      line-tail o1 p w = (rest w (whole line-is h)).room

    pub then-item : {o1 o2 : List ℕ} {p q : ℕ} → Wrote o at (front x) o1 p → Wrote o1 p (tail ++ (13 ∷ 10 ∷ [])) o2 q → Wrote o at (spell_item sh (item_of t x) ++ (13 ∷ 10 ∷ [])) o2 q
    then-item w v = wrote_as line-is (w then v)

pub ruleset ends = (end-tail, end-line, then-end)

pub ruleset items = (line-front, line-tail, then-item)
