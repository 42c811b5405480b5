-- How long a canonical file is at most by its rows, and so by the file that it was read from. Assumes nothing.
use mathlib.Core.Path.{◌≡◌, sym, ap, ◌∙◌}
use mathlib.Core.Bool.{Bool}
use mathlib.Core.List.{List, [], ◌∷◌}
use Prim.Native.Nat.{ℕ, suc, ◌+◌, ◌*◌, ◌≤◌}
use native.Mathlib.Omega.{arith}
use lib.ListN.{length, length-append}
use Rattle.base.specs.Pick.{pick}
use Rattle.base.proofs.Cases.{by-test, either, pick_true, pick-false}
use Rattle.sheet.specs.declared.Sheet.{Sheet}
use Rattle.sheet.proofs.Laws.{Sane}
use Rattle.paper.specs.Bytes.{bytes}
use Rattle.paper.specs.Days.{spell_day}
use Rattle.paper.specs.Accounts.{Account, is_nobody}
use Rattle.paper.specs.Batch.{Batch, Header, Thing, a_file, a_group, an_item, misnumbered, strange, things, batch_of}
use Rattle.paper.specs.Proper.{Stage, need_file, need_group, need_item, any, Before, at_top, fine, header_proper, rows_proper, batch_proper, after_file, after_group, after_item}
use Rattle.paper.specs.FirstLine.{spell_first}
use Rattle.paper.specs.GroupLine.{spell_payer}
use Rattle.paper.specs.Judge.{Accepted, judge}
use Rattle.paper.specs.Reading.{row_count}
use Rattle.paper.specs.Canonical.{canon}
use Rattle.paper.proofs.Trees.{batch-things}
use Rattle.paper.proofs.Verdicts.{headed}
use Rattle.calendar.proofs.Back.{spell-day-length}
use Rattle.roundtrip.proofs.linesound.Rows.{file-proper, group-proper, item-proper, misnumbered-proper, strange-proper}
use Rattle.roundtrip.specs.flat.Count.{group_front, group_closing, file_closing, count}
use Rattle.roundtrip.proofs.flat.Lengths.{canon-length}
use Rattle.roundtrip.specs.whole.Carries.{FourParts, Carries}
use Rattle.roundtrip.proofs.whole.Main.{sound}
use Rattle.spelling.proofs.linelen.Lengths.{decimal-twenty, first-full, file-long}
use Rattle.verdict.proofs.Many.{count-eighth}
use Rattle.bounds.specs.Most.{most_input, most_rows, most_output}
use Rattle.bounds.proofs.Items.{Within, proper-short, payer-most, item-most}

-- ---- what a row brings

file-closing : (st : Stage) (sum : ℕ) → file_closing st sum ≤ 30
unfolding file_closing
file-closing need_file sum = omega arith
file-closing need_group sum = omega arith
file-closing need_item sum = omega (arith, decimal-twenty sum)
file-closing any sum = omega (arith, decimal-twenty sum)

group-closing : (st : Stage) (sum : ℕ) → group_closing st sum ≤ 25
unfolding group_closing
group-closing need_file sum = omega arith
group-closing need_group sum = omega arith
group-closing need_item sum = omega (arith, decimal-twenty sum)
group-closing any sum = omega (arith, decimal-twenty sum)

payer-low : (always : Bool) (a : Account) → length (spell_payer always a) ≤ 42
unfolding spell_payer
payer-low always a =
    either (Within 42) (is_nobody a)
    (λ _. either (Within 42) always (λ _. omega arith) (λ _. omega arith))
    (λ _. payer-most a)

group-front : (sh : Sheet) (payer : Account) (date : ℕ) → group_front sh payer date ≤ 51
unfolding group_front
group-front sh payer date =
    omega (arith, length-append (spell_payer sh.emptypayer payer) (32 ∷ spell_day date), payer-low sh.emptypayer payer, spell-day-length date)

-- the rows that are left, the first of which is row k
count_most : (sh : Sheet) (k : ℕ) (b : Before) (ts : List Thing) → rows_proper k b ts ≡ fine → FourParts ts
    → count sh b.stage b.sum ts ≤ 30 + 345 * length ts
unfolding count
count_most sh k b [] e four = omega (arith, file-closing b.stage b.sum)
count_most sh k b (a_file kind number ∷ ts) e four =
    let (_, _, _, _, r) = file-proper k b kind number ts e in
    omega (arith, file-closing b.stage b.sum, file-long sh kind number, count_most sh (suc k) (after_file b) ts r four)
count_most sh k b (a_group date payer ∷ ts) e four =
    let (_, _, _, r) = group-proper k b date payer ts e in
    omega (arith, group-closing b.stage b.sum, group-front sh payer date, count_most sh (suc k) (after_group b payer) ts r four)
count_most sh k b (an_item x ∷ ts) e (parts, four) =
    let (_, _, _, p, r) = item-proper k b x ts e in
    let (s, l) = proper-short k b.single b.sum x (rows_proper (suc k) (after_item b x) ts) p in
    omega (arith, item-most sh x s parts l, count_most sh (suc k) (after_item b x) ts r four)
count_most sh k b (misnumbered x ∷ ts) e four = absurd (misnumbered-proper k b x ts e)
count_most sh k b (strange ∷ ts) e four = absurd (strange-proper k b ts e)

-- ---- the whole file

first-most : (sh : Sheet) (h : Header) → pick sh.header (header_proper h) fine ≡ fine → length (spell_first sh h) ≤ 58
unfolding spell_first
first-most sh h e =
    by-test sh.header
    (λ on. omega (arith, first-full sh h on (headed h (sym (pick_true _ _ on) ∙ e)).long))
    (λ off. let q : spell_first sh h ≡ bytes "UHL1" = pick-false _ _ off in omega (arith, ap length q))

pub canon-most : (sh : Sheet) (today : ℕ) (h : Header) (b : Batch) → Carries sh today h b → length (canon sh h b) ≤ 90 + 345 * row_count b
unfolding batch_proper
canon-most sh today h b p =
    let n : length (canon sh h (batch_of (things b))) ≡ length (spell_first sh h) + 2 + count sh need_file 0 (things b) = canon-length sh h (things b) p.rows-proper in
    let m : length (canon sh h b) ≡ length (spell_first sh h) + 2 + count sh need_file 0 (things b) = rw (batch-things b) at n in
    omega (arith, m, first-most sh h p.header-proper, count_most sh 1 at_top (things b) p.rows-proper p.four_parts)

-- ---- by the file that was read

module _ (sh : Sheet) (sane : Sane sh) (today : ℕ) (f : List ℕ) (h : Header) (b : Batch) (w : ℕ) (e : judge sh today f ≡ Accepted h b w) (small : length f ≤ most_input) where
  -- a file of 8 KiB has at most so many rows,
  pub rows-enough : row_count b ≤ most_rows
  rows-enough = omega (arith, count-eighth sh today f h b w e, small)

  -- and its canonical file at most so many bytes.
  pub output-enough : length (canon sh h b) ≤ most_output
  output-enough = omega (arith, rows-enough, canon-most sh today h b (sound sh sane today f h b w e))
