-- The canonical line of a group is read as its payer, total and due date. Assumes nothing.
use mathlib.Core.Path.{◌≡◌, refl, sym, ap, ◌∙◌}
use mathlib.Core.Bool.{Bool, true, false}
use mathlib.Core.List.{List, [], ◌∷◌, ◌++◌, append-nil, append_assoc}
use Prim.Native.Nat.{ℕ, suc, ◌+◌}
use native.Mathlib.Omega.{arith}
use lib.ListN.{length}
use borrow.Author.Tests.{le-leb, lt-leb}
use Rattle.base.specs.Pick.{pick}
use Rattle.base.specs.Seek.{starts, seek, Free}
use Rattle.base.proofs.Cases.{by-test, either, pick_true, pick-false}
use Rattle.sheet.specs.declared.Sheet.{Sheet}
use Rattle.sheet.proofs.Laws.{Sane}
use Rattle.paper.specs.Read.{value}
use Rattle.paper.specs.Bytes.{space}
use Rattle.paper.specs.Numerals.{decimal}
use Rattle.paper.specs.Days.{due_warnings, read_due, spell_day}
use Rattle.paper.specs.Warnings.{past_day, notices}
use Rattle.paper.specs.Accounts.{Account, account_proper, is_nobody, read_payer, spell_account}
use Rattle.paper.specs.Amounts.{read_total}
use Rattle.paper.specs.Proper.{payer_proper}
use Rattle.paper.specs.Entries.{group, total_at, Listed, said, group_line, kind_of, gap, line_end}
use Rattle.paper.specs.GroupLine.{space_count, has_payer, total_and_date, read_group, spell_payer, spell_group}
use Rattle.numeral.proofs.Plain.{decimal-plain}
use Rattle.calendar.proofs.Back.{due-back, spell-day-plain}
use Rattle.account.proofs.Plain.{spell-account-field}
use Rattle.account.proofs.Proper.{nobody-is}
use Rattle.account.proofs.Back.{payer-back, payer-empty}
use Rattle.amount.proofs.Back.{total-back}
use Rattle.roundtrip.specs.linesound.Fits.{GroupFits}
use Rattle.roundtrip.proofs.lineback.Fields.{at_space, digits-field, field_back, last-back, count-field}

-- ---- total and due date

abbrev totals : ℕ → ℕ → List ℕ
totals total date = decimal total ++ (32 ∷ spell_day date)

total-field : (t : ℕ) → Free space (decimal t)
total-field t = digits-field (decimal t) (decimal-plain t)

date-field : (d : ℕ) → Free space (spell_day d)
date-field d = digits-field (spell_day d) (spell-day-plain d)

-- one space
count-totals : (t d : ℕ) → space_count (totals t d) ≡ 1
unfolding space_count pick
count-totals t d =
    count-field (decimal t) (32 ∷ spell_day d) (total-field t)
    ∙ ap suc (sym (ap space_count (append-nil (spell_day d))) ∙ count-field (spell_day d) [] (date-field d))

-- ---- the three lines

-- with a payer
abbrev some_line : Account → ℕ → ℕ → List ℕ
some_line p t d = 50 ∷ 32 ∷ (spell_account p ++ (32 ∷ totals t d))

pub some_is : (sh : Sheet) (p : Account) (t d : ℕ) → is_nobody p ≡ false → spell_group sh p t d ≡ some_line p t d
unfolding spell_group spell_payer
some_is sh p t d e =
    ap (λ (l : List ℕ). 50 ∷ 32 ∷ l)
    (ap (λ (l : List ℕ). l ++ totals t d) (pick-false (pick sh.emptypayer (32 ∷ []) []) (spell_account p ++ (32 ∷ [])) e)
    ∙ append_assoc (spell_account p) (32 ∷ []) (totals t d))

-- it has three spaces
three : (p : Account) (t d : ℕ) → space_count (some_line p t d) ≡ 3
unfolding space_count pick
three p t d = ap suc (count-field (spell_account p) (32 ∷ totals t d) (spell-account-field p) ∙ ap suc (count-totals t d))

-- without one: an empty field, or none
pub nobody-line : (sh : Sheet) (p : Account) (t d : ℕ) → is_nobody p ≡ true → spell_group sh p t d ≡ 50 ∷ 32 ∷ (pick sh.emptypayer (32 ∷ []) [] ++ totals t d)
unfolding spell_group spell_payer
nobody-line sh p t d e =
    ap (λ (l : List ℕ). 50 ∷ 32 ∷ (l ++ totals t d)) (pick_true (pick sh.emptypayer (32 ∷ []) []) (spell_account p ++ (32 ∷ [])) e)

-- two spaces
two : (t d : ℕ) → space_count (50 ∷ 32 ∷ totals t d) ≡ 2
unfolding space_count pick
two t d = ap suc (count-totals t d)

module _ (sh : Sheet) (sane : Sane sh) (today : ℕ) (here : Bool) (p : Account) (t d : ℕ) (f : GroupFits sh today here p t d) where
  -- what is read; the total stands at `at`, and the date behind it
  abbrev reads : ℕ → Listed
  reads at = said (group p t d) (notices past_day (at + length (decimal t) + 1) (due_warnings here sh.warnpast today d)) (total_at at)

  totals-back : (at : ℕ) → total_and_date sh today here p at (totals t d) ≡ reads at
  unfolding total_and_date gap line_end
  totals-back at =
      field_back (read_total sh.comma) at (decimal t) t _ _ (total-field t) at_space (total-back sh.comma t f.total_low)
      ∙ last-back (read_due sh.longdate here sh.early sh.ahead today) _ (spell_day d) d _ (date-field d)
      (due-back d f.date_real sh.longdate here sh.early sh.ahead today f.date_allowed)

  -- the payer's field d
  with-field : (s : List ℕ) → Free space s → read_payer sh.emptypayer sh.zeropayer sh.joined sh.basemin s ≡ value p
      → has_payer sh.emptypayer (50 ∷ 32 ∷ (s ++ (32 ∷ totals t d))) ≡ true
      → read_group sh today here (50 ∷ 32 ∷ (s ++ (32 ∷ totals t d))) ≡ reads (2 + length s + 1)
  unfolding read_group gap
  with-field s free e h =
      pick_true _ _ h
      ∙ field_back (read_payer sh.emptypayer sh.zeropayer sh.joined sh.basemin) 2 s p _ _ free at_space e
      ∙ totals-back _

  some_back : is_nobody p ≡ false → read_group sh today here (spell_group sh p t d) ≡ reads (2 + length (spell_account p) + 1)
  unfolding payer_proper has_payer
  some_back e =
      let proper : account_proper p ≡ true = sym (pick-false true (account_proper p) e) ∙ f.payer-proper in
      ap (read_group sh today here) (some_is sh p t d e)
      ∙ with-field (spell_account p) (spell-account-field p)
      (payer-back p proper sh.joined sh.basemin sane.base_few sh.emptypayer sh.zeropayer)
      (either (λ b. b ≡ true) sh.emptypayer (λ _. refl) (λ _. le-leb 3 (space_count (some_line p t d)) (omega (arith, three p t d))))

  module _ (e : is_nobody p ≡ true) where
    empty_back : sh.emptypayer ≡ true → read_group sh today here (spell_group sh p t d) ≡ reads 3
    unfolding has_payer seek
    empty_back on =
        ap (read_group sh today here)
        (nobody-line sh p t d e ∙ ap (λ (l : List ℕ). 50 ∷ 32 ∷ (l ++ totals t d)) (pick_true (32 ∷ []) [] on))
        ∙ with-field [] refl
        (ap (λ (b : Bool). read_payer b sh.zeropayer sh.joined sh.basemin []) on
        ∙ payer-empty sh.zeropayer sh.joined sh.basemin
        ∙ ap value (sym (nobody-is p e)))
        (pick_true _ _ on)

    missing-back : sh.emptypayer ≡ false → read_group sh today here (spell_group sh p t d) ≡ reads 2
    unfolding read_group has_payer
    missing-back off =
        ap (read_group sh today here)
        (nobody-line sh p t d e ∙ ap (λ (l : List ℕ). 50 ∷ 32 ∷ (l ++ totals t d)) (pick-false (32 ∷ []) [] off))
        ∙ pick-false _ _ (pick-false _ _ off ∙ lt-leb 3 (space_count (50 ∷ 32 ∷ totals t d)) (omega (arith, two t d)))
        ∙ ap (λ (a : Account). total_and_date sh today here a 2 (totals t d)) (sym (nobody-is p e))
        ∙ totals-back 2

pub kind-group : (sh : Sheet) (p : Account) (t d : ℕ) → kind_of (spell_group sh p t d) ≡ group_line
unfolding kind_of starts spell_group pick
kind-group sh p t d = refl

-- .. and where its total stands
pub group-back : (sh : Sheet) → Sane sh → (today : ℕ) (here : Bool) (p : Account) (t d : ℕ) → GroupFits sh today here p t d
    → (at : ℕ) × (due : ℕ)
    × (read_group sh today here (spell_group sh p t d) ≡ said (group p t d) (notices past_day due (due_warnings here sh.warnpast today d)) (total_at at))
group-back sh sane today here p t d f =
    by-test (is_nobody p)
    (λ e.
    by-test sh.emptypayer (λ on. (3, _, empty_back sh sane today here p t d f e on)) (λ off. (2, _, missing-back sh sane today here p t d f e off)))
    (λ e. (2 + length (spell_account p) + 1, _, some_back sh sane today here p t d f e))
