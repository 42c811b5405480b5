-- What a line says is of the line's kind, with few warnings: none, one for a group, six for an item; an item's amount has at most 14
-- digits. Assumes nothing.
use mathlib.Core.Bool.{Bool, true, false}
use mathlib.Core.List.{List, ◌++◌}
use Prim.Native.Nat.{ℕ, ◌≤◌}
use native.Mathlib.Omega.{arith}
use lib.ListN.{length, drop, length-append}
use Rattle.base.specs.Pick.{pick}
use Rattle.sheet.specs.declared.Sheet.{Sheet}
use Rattle.sheet.proofs.Laws.{Sane}
use Rattle.paper.specs.Warnings.{past_day, low_priority, notices}
use Rattle.paper.specs.Accounts.{Account}
use Rattle.paper.specs.Days.{due_warnings}
use Rattle.paper.specs.Texts.{Noted}
use Rattle.paper.specs.Batch.{Item, Header}
use Rattle.paper.specs.Entries.{head, file, group, item, close_group, close_file, Places, Listed, Counted, said, no, counted, Kind, head_line, file_line, group_line, item_line, group_end, file_end}
use Rattle.paper.specs.Spells.{Context, read_as}
use Rattle.paper.proofs.Passing.{notices-length}
use Rattle.paper.proofs.LineSays as lines
use Rattle.paper.proofs.LineSays.{Asked, LineSays, Text, no-text, a_text}
use Rattle.amount.proofs.Sound.{amount-within}
use Rattle.bank.proofs.Sound.{bank-warnings}
use Rattle.bank.proofs.Due.{due-bank}
use Rattle.text.proofs.wording.Warnings.{text-warnings}

pub data Light : Kind → Counted → Type 0 where
  a-head : {h : Header} {p : Places} → Light head_line (said (head h) 0 p)
  a-file : {n m : ℕ} {p : Places} → Light file_line (said (file n m) 0 p)
  a-group : {a : Account} {t d v : ℕ} {p : Places} → v ≤ 1 → Light group_line (said (group a t d) v p)
  an-item : {x : Item} {v : ℕ} {p : Places} → v ≤ 6 → x.amount ≤ 99999999999999 → Light item_line (said (item x) v p)
  a_group_end : {p : Places} → Light group_end (said close_group 0 p)
  a_file_end : {p : Places} → Light file_end (said close_file 0 p)
  refused : {kind : Kind} {n off : ℕ} → Light kind (no n off)

pick-le : (t : Bool) (a b m : ℕ) → a ≤ m → b ≤ m → pick t a b ≤ m
unfolding pick
pick-le true a b m p q = p
pick-le false a b m p q = q

due-few : (here warns : Bool) (today d : ℕ) → due_warnings here warns today d ≤ 1
unfolding due_warnings
due-few here warns today d = pick-le here _ 0 1 (pick-le _ _ 0 1 (pick-le warns 1 0 1 (omega arith) (omega arith)) (omega arith)) (omega arith)

-- ---- each line

module _ (sh : Sheet) (sane : Sane sh) where
  texts-light : {w : List ℕ} {t : Noted} → Text sh.text w t → length t.warnings ≤ 5
  texts-light no-text = omega arith
  texts-light {w} (a_text at {t} e) = text-warnings sh.text sane.parts_few at (drop at w) t e

  light : {today : ℕ} {a : Asked} {w : List ℕ} {kind : Kind} {r : Listed} → LineSays sh today a w kind r → Light kind (counted r)
  unfolding counted
  light (lines.no-header _) = a-head
  light (lines.a_header _ _ _ _ _ _ _) = a-head
  light (lines.a-file _ _ _ _) = a-file
  light {today} {a} (lines.a-group {date = date} spot _ _ _ _ _) =
      let past = due_warnings a.here sh.warnpast today date in
      a-group {v = length (notices past_day spot past)} (omega (arith, notices-length past_day spot past, due-few a.here sh.warnpast today date))
  light {a = a} (lines.an-item {amount = amount} {bank = bank} {texts = texts} at _ _ m _ b _ _ t) =
      let low = notices low_priority at bank.warnings in
      let low-few = bank-warnings sh.priority b.0 bank (due-bank a.due sh.priority b.0 bank b.1).0 in
      let few : length (low ++ texts.warnings) ≤ 6 =
      omega (arith, length-append low texts.warnings, notices-length low_priority at bank.warnings, low-few, texts-light t) in
      let within = (amount-within sh.comma sh.itemdigits sh.itemmax m.0 amount m.1).within in
      let small : amount ≤ 99999999999999 = omega (arith, within, sane.item_low) in
      an-item few small
  light lines.a_group_end = a_group_end
  light lines.a_file_end = a_file_end
  light (lines.refused _ _) = refused

-- any line
pub line-light : (sh : Sheet) → Sane sh → (today : ℕ) (c : Context) (kind : Kind) (s : List ℕ) → Light kind (counted (read_as sh today c kind s))
line-light sh sane today c kind s = light sh sane (lines.says sh today c kind s)
