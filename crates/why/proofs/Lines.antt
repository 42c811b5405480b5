-- The walk of each kind of line tells its fault truly. Assumes nothing.
use mathlib.Core.Path.{◌≡◌, refl, sym, ap, ◌∙◌}
use mathlib.Core.Bool.{Bool, true, false}
use mathlib.Core.List.{List, [], ◌∷◌}
use Prim.Native.Nat.{ℕ, ◌+◌}
use native.Mathlib.Omega.{arith}
use lib.Dec.{eqb}
use lib.ListN.{length, take, drop}
use lib.Seq.{drop-drop}
use Rattle.base.specs.Pick.{pick}
use Rattle.base.specs.Seek.{starts}
use Rattle.base.proofs.Cases.{by-test, either_way, pick_true, pick-false}
use Rattle.base.proofs.Seek.{never}
use Rattle.base.proofs.Lists.{drop-none}
use Rattle.sheet.specs.declared.Sheet.{Sheet}
use Rattle.sheet.proofs.Laws.{Sane}
use Rattle.paper.specs.Bytes.{space, field_of}
use Rattle.paper.specs.Numerals.{digits}
use Rattle.paper.specs.Days.{short_day, read_due}
use Rattle.paper.specs.Terms.{day_here, bank_due}
use Rattle.paper.specs.Accounts.{Account, nobody, read_account, read_payer}
use Rattle.paper.specs.Amounts.{read_total, read_item_amount}
use Rattle.paper.specs.BankField.{read_due_bank}
use Rattle.paper.specs.Texts.{Noted, read_text}
use Rattle.paper.specs.Entries.{Entry, close_group, close_file, Listed, on_field, line_end, Kind, head_line, file_line, group_line, item_line, group_end, file_end}
use Rattle.paper.specs.FirstLine.{text_field, read_to, read_rest, read_first}
use Rattle.paper.specs.FileLine.{read_kind, read_number, read_code, read_file}
use Rattle.paper.specs.GroupLine.{has_payer, total_and_date, read_group}
use Rattle.paper.specs.ItemLine.{no_texts, read_symbol, read_symbol_or_none, is_value, fixed_tail, after_symbol, open_tail, tail, from_payee, read_item}
use Rattle.paper.specs.ClosingLine.{plus_at, read_close}
use Rattle.paper.specs.Spells.{Context, number_test, read_as}
use Rattle.why.specs.Rule.{first_broken}
use Rattle.why.specs.Names.{Name, creation_day, firm_name, client_number, interval_start, interval_end, rest_of_line, file_kind, file_number, payer_bank, group_payer, group_total, group_day, item_payer, payee, amount, variable_symbol, bank_field, specific_symbol, message, group_closing, file_closing}
use Rattle.why.specs.Forms.{are_digits, spelled}
use Rattle.why.specs.Fields.{rules_of, symbol_rules}
use Rattle.why.specs.Walk.{Walked, passed, ended, closing_plus, why_close, why_first, why_file, why_total, why_group, why_fixed, why_behind, why_open, why_payee, why_item, why_as, last, mark}
use Rattle.why.specs.Told.{Clear, begins, divides, closing, Told, fine, by-form}
use Rattle.why.proofs.Agrees.{Agrees, digits_are, digits-spelled}
use Rattle.why.proofs.Fields.{digits-agree, kind-agrees, code-agrees, number-agrees, name-agrees, end-agrees, rest-agrees, day-agrees, due-agrees, account-agrees, payer-agrees, total-agrees, amount-agrees, bank-agrees, symbol-agrees, symbol-or-none-agrees}
use Rattle.why.proofs.Texts.{text-agrees}
use Rattle.why.proofs.Few.{few-digits, few-day, few-name}
use Rattle.why.proofs.Walk.{Here, columns, spots, lasts, gaps, ends}

-- what begins with a space has a first byte
leading : (v : List ℕ) → starts space v ≡ true → (x : ℕ) × (s : List ℕ) × (v ≡ x ∷ s)
unfolding starts
leading [] e = never (sym e)
leading (x ∷ s) e = (x, s, refl)

-- a symbol is what has its digits
is-symbol : (t : List ℕ) → is_value (read_symbol t) ≡ are_digits 1 10 t
unfolding is_value pick
is-symbol t = by-test (are_digits 1 10 t) (λ e. rw (digits_are 1 10 t, e)) (λ e. rw (digits_are 1 10 t, e))

-- the symbol's rules on S, and on the other sheets
pub symbols : (f : Bool) → f ≡ false → (t : List ℕ) → Agrees (read_symbol t) (first_broken (symbol_rules f) t)
symbols true e t = never e
symbols false e t = symbol-agrees t

pub symbols-or-none : (f : Bool) → f ≡ true → (t : List ℕ) → Agrees (read_symbol_or_none t) (first_broken (symbol_rules f) t)
symbols-or-none true e t = symbol-or-none-agrees t
symbols-or-none false e t = never (sym e)

module _ (sh : Sheet) (sane : Sane sh) (today : ℕ) (c : Context) (w : List ℕ) where
  abbrev Tells : ℕ → Listed → Walked → Type 0
  Tells from = Told sh today c w from

  -- what is the same is told the same
  alike : {from : ℕ} {a b : Listed} {d f : Walked} → a ≡ b → d ≡ f → Tells from b f → Tells from a d
  alike e g t = rw (e, g) t

  -- the line from its mark on
  start : (from : ℕ) → Here sh today c w from from (drop from w)
  start from = record { left = refl; clear = begins }

  pub first-tells : Tells 4 (read_first sh w) (why_first sh today c w)
  unfolding read_first why_first rules_of
  first-tells =
      either_way (Tells 4) sh.header
      (spots sh today c w 4 6 short_day creation_day (λ t _. day-agrees t) few-day 4 (drop 4 w) (start 4) λ date a1 s1 _ n1 h1.
      spots sh today c w 4 20 text_field firm_name (name-agrees 20) (few-name 20) a1 s1 h1 λ name a2 s2 _ n2 h2.
      spots sh today c w 4 10 (digits 10 10) client_number (λ t _. digits-agree 10 10 t) (few-digits 10 []) a2 s2 h2 λ client a3 s3 _ n3 h3.
      spots sh today c w 4 3 (digits 3 3) interval_start (λ t _. digits-agree 3 3 t) (few-digits 3 []) a3 s3 h3 λ from a4 s4 e n4 h4.
      let forty : a3 ≡ 40 = omega arith in
      let same : spelled (take 3 (drop 40 w)) ≡ from = ap (λ (s : List ℕ). spelled (take 3 s)) (rw forty at h3.left) ∙ sym (digits-spelled 3 3 (take 3 s3) from e) in
      spots sh today c w 4 3 (read_to sh.interval from) interval_end (λ t _. rw same (end-agrees sh.interval from t)) (few-digits 3 _) a4 s4 h4 λ to a5 s5 _ n5 h5.
      lasts sh today c w 4 (read_rest sh.short) rest_of_line a5 s5 (rest-agrees sh.short s5) h5 λ rest. fine)
      fine

  pub file-tells : Tells 2 (read_file sh (number_test sh c.numbers) w) (why_file sh today c w)
  unfolding read_file why_file rules_of
  file-tells =
      columns sh today c w 2 (read_kind sh) file_kind (kind-agrees sh) 2 (drop 2 w) (start 2) λ kind a1 s1 h1.
      gaps sh today c w 2 file_number a1 s1 h1 λ a2 s2 h2.
      columns sh today c w 2 (read_number (number_test sh c.numbers)) file_number (number-agrees sh c.numbers) a2 s2 h2 λ number a3 s3 h3.
      gaps sh today c w 2 payer_bank a3 s3 h3 λ a4 s4 h4.
      columns sh today c w 2 (read_code sh) payer_bank (code-agrees sh) a4 s4 h4 λ bank a5 s5 h5.
      ends sh today c w 2 payer_bank a5 s5 h5 fine

  total-tells : (payer : Account) (at : ℕ) (s : List ℕ) → Here sh today c w 2 at s
      → Tells 2 (total_and_date sh today (day_here sh c.kind) payer at s) (why_total sh today c w at s)
  unfolding total_and_date why_total rules_of
  total-tells payer at s here =
      columns sh today c w 2 (read_total sh.comma) group_total (total-agrees sh.comma) at s here λ total a1 s1 h1.
      gaps sh today c w 2 group_day a1 s1 h1 λ a2 s2 h2.
      columns sh today c w 2 (read_due sh.longdate (day_here sh c.kind) sh.early sh.ahead today) group_day
      (due-agrees sh.longdate (day_here sh c.kind) sh.early sh.ahead today) a2 s2 h2 λ date a3 s3 h3.
      ends sh today c w 2 group_day a3 s3 h3 fine

  pub group-tells : Tells 2 (read_group sh today (day_here sh c.kind) w) (why_group sh today c w)
  unfolding read_group why_group rules_of
  group-tells =
      either_way (Tells 2) (has_payer sh.emptypayer w)
      (columns sh today c w 2 (read_payer sh.emptypayer sh.zeropayer sh.joined sh.basemin) group_payer
      (payer-agrees sh.emptypayer sh.zeropayer sh.joined sh.basemin) 2 (drop 2 w) (start 2) λ payer a1 s1 h1.
      gaps sh today c w 2 group_total a1 s1 h1 λ a2 s2 h2.
      total-tells payer a2 s2 h2)
      (total-tells nobody 2 (drop 2 w) (start 2))

  -- ---- an item's line

  -- the tail, whose reading k goes on with
  module _ {k : ℕ → Noted → Listed} (h : (n : ℕ) (t : Noted) → Tells 0 (k n t) passed) where
    text-tells : (specific at : ℕ) (s : List ℕ) → Here sh today c w 0 at s → Tells 0 (on_field at (read_text sh.text at s) (k specific)) (last sh today c w message at s)
    unfolding rules_of
    text-tells specific at s here =
        lasts sh today c w 0 (read_text sh.text at) message at s (text-agrees sh.text sane.names_av sane.part_alone at s) here (h specific)

    fixed-tells : sh.fixedtail ≡ true → (at : ℕ) (s : List ℕ) → Here sh today c w 0 at s → Tells 0 (fixed_tail sh.text k at s) (why_fixed sh today c w at s)
    unfolding fixed_tail why_fixed rules_of
    fixed-tells e at s here =
        gaps sh today c w 0 specific_symbol at s here λ a1 s1 h1.
        columns sh today c w 0 read_symbol_or_none specific_symbol (symbols-or-none sh.fixedtail e) a1 s1 h1 λ specific a2 s2 h2.
        gaps sh today c w 0 message a2 s2 h2 λ a3 s3 h3.
        text-tells specific a3 s3 h3

    -- behind a byte that divides
    behind : (x at : ℕ) (s : List ℕ) → Here sh today c w 0 at (x ∷ s) → Here sh today c w 0 (at + 1) s
    behind x at s here = record { left = sym (drop-drop 1 at w) ∙ ap (drop 1) here.left; clear = divides x s here.clear here.left }

    after-tells : (specific at : ℕ) (s : List ℕ) → Here sh today c w 0 at s → Tells 0 (after_symbol sh.text k specific at s) (why_behind sh today c w at s)
    unfolding after_symbol why_behind
    after-tells specific at [] here = h specific no_texts
    after-tells specific at (x ∷ s) here = text-tells specific (at + 1) s (behind x at s here)

    open-tells : sh.fixedtail ≡ false → (at : ℕ) (s : List ℕ) → Here sh today c w 0 at s → Tells 0 (open_tail sh.text k sh.bare at s) (why_open sh today c w at s)
    unfolding open_tail why_open rules_of
    open-tells e at [] here = h 0 no_texts
    open-tells e at (x ∷ s) here =
        rw (is-symbol (field_of s))
        (either_way (Tells 0) _
        (text-tells 0 (at + 1) s (behind x at s here))
        (columns sh today c w 0 read_symbol specific_symbol (symbols sh.fixedtail e) (at + 1) s (behind x at s here) λ specific a1 s1 h1. after-tells specific a1 s1 h1))

    tail-tells : (at : ℕ) (s : List ℕ) → Here sh today c w 0 at s → Tells 0 (tail sh at s k) (pick sh.fixedtail (why_fixed sh today c w at s) (why_open sh today c w at s))
    unfolding tail
    tail-tells at s here =
        by-test sh.fixedtail
        (λ e. alike (pick_true _ _ e) (pick_true _ _ e) (fixed-tells e at s here))
        (λ e. alike (pick-false _ _ e) (pick-false _ _ e) (open-tells e at s here))

  payee-tells : (payer : Account) (at : ℕ) (s : List ℕ) → Here sh today c w 0 at s
      → Tells 0 (from_payee sh (bank_due sh today c.kind c.date) payer at s) (why_payee sh today c w at s)
  unfolding from_payee why_payee rules_of
  payee-tells payer at s here =
      columns sh today c w 0 (read_account sh.joined sh.basemin) payee (account-agrees sh.joined sh.basemin) at s here λ to a1 s1 h1.
      gaps sh today c w 0 amount a1 s1 h1 λ a2 s2 h2.
      columns sh today c w 0 (read_item_amount sh.comma sh.itemdigits sh.itemmax) amount (amount-agrees sh.comma sh.itemdigits sh.itemmax) a2 s2 h2 λ sum a3 s3 h3.
      gaps sh today c w 0 variable_symbol a3 s3 h3 λ a4 s4 h4.
      columns sh today c w 0 read_symbol variable_symbol (digits-agree 1 10) a4 s4 h4 λ variable a5 s5 h5.
      gaps sh today c w 0 bank_field a5 s5 h5 λ a6 s6 h6.
      columns sh today c w 0 (read_due_bank sh.priority (bank_due sh today c.kind c.date)) bank_field
      (λ t. bank-agrees sh today c.kind c.date t sh.priority) a6 s6 h6 λ bank a7 s7 h7.
      tail-tells (λ _ _. fine) a7 s7 h7

  pub item-tells : Tells 0 (read_item sh (bank_due sh today c.kind c.date) c.single w) (why_item sh today c w)
  unfolding read_item why_item rules_of
  item-tells =
      either_way (Tells 0) c.single
      (columns sh today c w 0 (read_account sh.joined sh.basemin) item_payer (account-agrees sh.joined sh.basemin) 0 w whole λ payer a1 s1 h1.
      gaps sh today c w 0 payee a1 s1 h1 λ a2 s2 h2.
      payee-tells payer a2 s2 h2)
      (payee-tells nobody 0 w whole)
    where
      whole : Here sh today c w 0 0 w
      whole = record { left = drop-none w; clear = begins }

  -- ---- lines that close

  plus-tells : (e : Entry) (name : Name) (at : ℕ) (s : List ℕ) → Clear sh today c w 1 at → drop at w ≡ s → Tells 1 (plus_at e at s) (closing_plus name at s)
  unfolding plus_at closing_plus line_end ended
  plus-tells e name at [] clear l = by-form clear (closing (ap length l))
  plus-tells e name at (x ∷ []) clear l = either_way (Tells 1) (eqb x 43) fine (by-form clear (closing (ap length l)))
  plus-tells e name at (x ∷ y ∷ s) clear l =
      either_way (Tells 1) (eqb x 43)
      (by-form (divides x (y ∷ s) clear l) (closing (ap length (sym (drop-drop 1 at w) ∙ ap (drop 1) l))))
      (by-form clear (closing (ap length l)))

  pub close-tells : (near : Bool) (e : Entry) (name : Name) → Tells 1 (read_close near e w) (why_close near name w)
  unfolding read_close why_close
  close-tells near e name =
      by-test (starts space (drop 1 w))
      (λ f.
      let (x, s, g) = leading (drop 1 w) f in
      alike (pick_true _ _ f) (pick_true _ _ f) (plus-tells e name 2 (drop 2 w) (divides x s begins g) refl))
      (λ f.
      alike (pick-false _ _ f) (pick-false _ _ f)
      (either_way (Tells 1) near (plus-tells e name 1 (drop 1 w) begins refl) (by-form begins (closing refl))))

  -- ---- a line of any kind

  pub tells : (kind : Kind) → Told sh today c w (mark kind) (read_as sh today c kind w) (why_as sh today c w kind)
  unfolding read_as why_as
  tells head_line = first-tells
  tells file_line = file-tells
  tells group_line = group-tells
  tells item_line = item-tells
  tells group_end = close-tells sh.near close_group group_closing
  tells file_end = close-tells sh.near close_file file_closing
