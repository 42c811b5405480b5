-- Each field's reader and its rules agree. Assumes nothing.
use mathlib.Core.Path.{◌≡◌, refl, ◌∙◌}
use mathlib.Core.Bool.{Bool, true, false}
use mathlib.Core.List.{List, [], ◌∷◌}
use Prim.Native.Nat.{ℕ, ◌+◌, ◌-◌, ◌/◌}
use lib.Dec.{eqb, ltb, leb}
use lib.ListN.{length, take, drop}
use borrow.Author.Tests.{lt-ltb, le-ltb, le-leb, lt-leb, eq-eqb}
use Rattle.base.specs.Pick.{pick}
use Rattle.base.specs.Seek.{all, seek, before}
use Rattle.base.proofs.Cases.{by-test, by-lt, pick_true, pick-false}
use Rattle.sheet.specs.declared.Sheet.{Sheet}
use Rattle.sheet.specs.Sheets.{kind_allowed, bank_allowed}
use Rattle.paper.specs.Read.{Field, value, fault, given}
use Rattle.paper.specs.Bytes.{is_text, null, dash, comma}
use Rattle.paper.specs.Numerals.{digits_on, digits}
use Rattle.paper.specs.Days.{real_day, real, short_day, long_day, read_day, past, day_number, due_allowed, read_due, month_ahead, collect_allowed}
use Rattle.paper.specs.Terms.{collection, bank_due}
use Rattle.paper.specs.Accounts.{rest, non_zero, account_ok, ruled, two_parts, one_part, read_account, only_zeros, read_payer}
use Rattle.paper.specs.Amounts.{with_comma, read_amount, read_total, amount_proper, read_item_amount}
use Rattle.paper.specs.BankField.{Bank, ninth, read_bank, read_due_bank}
use Rattle.paper.specs.FirstLine.{text_field, read_to, rest_length, read_rest}
use Rattle.paper.specs.FileLine.{member, series, number_fault, read_kind, read_number, read_code}
use Rattle.paper.specs.ItemLine.{read_symbol, read_symbol_or_none}
use Rattle.paper.specs.Spells.{Numbers, any_number, after, number_test}
use Rattle.why.specs.Rule.{Rule, rule, within, Tested, kept, broke, first_broken}
use Rattle.why.specs.Forms.{are_digits, or_zero, spelled, are_text, is_long, is_day, shortly, day_spelled, has_dash, is_joined, prefix_bytes, base_bytes, is_account, has_comma, crown_bytes, haler_bytes, is_amount, amount_spelled}
use Rattle.why.specs.Fields.{digit_rules, day_rules, name_rules, end_rules, rest_rules, kind_rules, number_rules, code_rules, account_rules, is_real, is_after, is_rest, is_kind, is_inside, is_unused, is_code, prefix_ok, base_ok, base_two, is_some, is_low, not_early, not_late, has_bank, tenth_zero, ninth_zero, own_term, other_term, last_term, is_symbol, is_none, payer_rules, total_rules, amount_rules, due_rules, bank_of, bank_rules, symbol_rules}
use Rattle.why.proofs.Agrees.{Agrees, takes, refuses, next, sparing, spares, behind, digits_are}

-- a reader and a list of rules agree of every field
abbrev pub Agree : {A : Type 0} → (List ℕ → Field A) → List Rule → Type 0
Agree read rs = (s : List ℕ) → Agrees (read s) (first_broken rs s)

-- ---- digits, and one test behind them

pub digits-agree : (a b : ℕ) → Agree (digits a b) (digit_rules a b)
unfolding first_broken
digits-agree a b s = rw (digits_are a b s) (next (are_digits a b s) (rule 4 40 (are_digits a b)) 4 refl λ _. takes)

pub kind-agrees : (sh : Sheet) → Agree (read_kind sh) (kind_rules sh)
unfolding read_kind first_broken is_kind
kind-agrees sh s = behind 4 4 s _ _ refl λ _. next (kind_allowed sh (spelled s)) _ 7 refl λ _. takes

pub code-agrees : (sh : Sheet) → Agree (read_code sh) (code_rules sh)
unfolding read_code first_broken is_code
code-agrees sh s = behind 4 4 s _ _ refl λ _. next (bank_allowed sh (spelled s)) _ 8 refl λ _. takes

-- a number: 9 by the interval, and by earlier account files
pub number-agrees : (sh : Sheet) (ns : Numbers) → Agree (read_number (number_test sh ns)) (number_rules sh.interval ns)
unfolding read_number number_test number_fault first_broken pick is_inside is_unused
number-agrees sh any_number s = behind 6 6 s _ _ refl λ _. takes
number-agrees sh (after h seen) s =
    behind 6 6 s _ _ refl λ _.
    by-test sh.interval
    (λ e. by-test (leb h.from (series (spelled s)))
    (λ f. by-test (leb (series (spelled s)) h.to)
    (λ g. by-test (member (series (spelled s)) seen) (λ m. rw (e, f, g, m) (refuses refl)) (λ m. rw (e, f, g, m) takes))
    (λ g. rw (e, f, g) (refuses refl)))
    (λ f. rw (e, f) (refuses refl)))
    (λ e. rw e takes)

-- ---- the first line

pub name-agrees : (n : ℕ) (s : List ℕ) → length s ≡ n → Agrees (text_field s) (first_broken (name_rules n) s)
unfolding text_field are_text first_broken pick
name-agrees n s e = by-test (all is_text s) (λ f. rw (eq-eqb (length s) n e, f) takes) (λ f. rw (eq-eqb (length s) n e, f) (refuses refl))

pub end-agrees : (ordered : Bool) (start : ℕ) → Agree (read_to ordered start) (end_rules ordered start)
unfolding read_to first_broken pick is_after
end-agrees true start s =
    behind 3 3 s _ _ refl λ _.
    by-lt (spelled s) start
    (λ l. rw (lt-ltb (spelled s) start l, lt-leb start (spelled s) l) (refuses refl))
    (λ l. rw (le-ltb (spelled s) start l, le-leb start (spelled s) l) takes)
end-agrees false start s = behind 3 3 s _ _ refl λ _. takes

pub rest-agrees : (short : Bool) → Agree (read_rest short) (rest_rules short)
unfolding read_rest text_field first_broken pick is_rest
rest-agrees short s =
    by-test (rest_length short (length s))
    (λ e. by-test (all is_text s) (λ f. rw (e, f) takes) (λ f. rw (e, f) (refuses refl)))
    (λ e. rw e (refuses refl))

-- ---- days

real-agrees : {t : Tested} (d : ℕ) (k : ℕ → Field ℕ) (r : Rule) → r.number ≡ 11 → (real_day d ≡ true → Agrees (k d) t) → Agrees (given (real d) k) (pick (real_day d) t (broke r))
unfolding real given pick
real-agrees d k r e h = by-test (real_day d) (λ f. rw f (h f)) (λ f. rw f (refuses e))

-- a date is read by its form
pub day-is : (long : Bool) (s : List ℕ) → read_day long s ≡ pick (is_day long s) (real (day_spelled long s)) (fault 4)
unfolding read_day is_day is_long day_spelled short_day long_day given pick
day-is long s =
    by-test (pick long (eqb (length s) 8) false)
    (λ e. by-test (are_digits 8 8 s) (λ f. rw (e, digits_are 8 8 s, f)) (λ f. rw (e, digits_are 8 8 s, f)))
    (λ e. by-test (are_digits 6 6 s) (λ f. rw (e, digits_are 6 6 s, f)) (λ f. rw (e, digits_are 6 6 s, f)))

pub day-agrees : Agree short_day day_rules
unfolding short_day is_day is_long day_spelled first_broken real pick is_real
day-agrees s = behind 6 6 s _ _ refl λ _. by-test (real_day (shortly (spelled s))) (λ f. rw f takes) (λ f. rw f (refuses refl))

pub due-agrees : (long here early : Bool) (ahead today : ℕ) → Agree (read_due long here early ahead today) (due_rules long here early ahead today)
unfolding read_due first_broken due_allowed given pick is_real not_early not_late
due-agrees long here early ahead today s =
    by-test (is_day long s)
    (λ e. rw (day-is long s, e)
    (real-agrees (day_spelled long s) _ _ refl λ _.
    by-test here
    (λ f. by-test (past today (day_spelled long s))
    (λ g. by-test early (λ i. rw (f, g, i) takes) (λ i. rw (f, g, i) (refuses refl)))
    (λ g. by-test (leb (day_number (day_spelled long s) - day_number today) ahead) (λ i. rw (f, g, i) takes) (λ i. rw (f, g, i) (refuses refl))))
    (λ f. rw f takes)))
    (λ e. rw (day-is long s, e) (refuses refl))

-- ---- accounts

-- the rule of digits, by its three tests
ruled-agrees : (p b : ℕ) (q r u : Rule) → q.number ≡ 5 → r.number ≡ 5 → u.number ≡ 5
    → Agrees (ruled p b) (pick (eqb (rest 10 p) 0) (pick (eqb (rest 10 b) 0) (pick (leb 2 (non_zero 10 b)) kept (broke u)) (broke r)) (broke q))
unfolding ruled account_ok pick
ruled-agrees p b q r u d e f =
    by-test (eqb (rest 10 p) 0)
    (λ g. by-test (eqb (rest 10 b) 0)
    (λ h. by-test (leb 2 (non_zero 10 b)) (λ i. rw (g, h, i) takes) (λ i. rw (g, h, i) (refuses f)))
    (λ h. rw (g, h) (refuses e)))
    (λ g. rw g (refuses d))

-- two parts that have their form, and two of which one has not
two-agree : {t : Tested} (least : ℕ) (p b : List ℕ) (r : Rule) → r.number ≡ 4 → Agrees (ruled (spelled p) (spelled b)) t
    → Agrees (two_parts least p b) (pick (pick (are_digits 1 6 p) (are_digits least 10 b) false) t (broke r))
unfolding two_parts given pick
two-agree least p b r e h =
    by-test (are_digits 1 6 p)
    (λ f. by-test (are_digits least 10 b)
    (λ g. rw (digits_are 1 6 p, f, digits_are least 10 b, g) h)
    (λ g. rw (digits_are 1 6 p, f, digits_are least 10 b, g) (refuses e)))
    (λ f. rw (digits_are 1 6 p, f) (refuses e))

pub account-agrees : (joined : Bool) (least : ℕ) → Agree (read_account joined least) (account_rules joined least)
unfolding read_account is_account has_dash is_joined prefix_bytes base_bytes one_part or_zero digits_on first_broken pick prefix_ok base_ok base_two
account-agrees joined least s =
    by-test (ltb (seek dash s) (length s))
    (λ e. rw e (two-agree least (before dash s) (drop (seek dash s + 1) s) _ refl (ruled-agrees _ _ _ _ _ refl refl refl)))
    (λ e. by-test (pick joined (ltb 10 (length s)) false)
    (λ f. rw (e, f) (two-agree 10 (take (length s - 10) s) (drop (length s - 10) s) _ refl (ruled-agrees _ _ _ _ _ refl refl refl)))
    (λ f. rw (e, f) (behind least 10 s _ _ refl λ _. ruled-agrees 0 (spelled s) _ _ _ refl refl refl)))

pub payer-agrees : (empty allzero joined : Bool) (least : ℕ) → Agree (read_payer empty allzero joined least) (payer_rules empty allzero joined least)
unfolding read_payer is_none
payer-agrees empty allzero joined least s =
    by-test (pick empty (null s) false)
    (λ e. first e)
    (λ e. by-test (pick allzero (only_zeros s) false) (λ f. second e f) (λ f. other e f))
  where
    first : pick empty (null s) false ≡ true → Agrees (read_payer empty allzero joined least s) (first_broken (payer_rules empty allzero joined least) s)
    first e = rw (pick_true _ _ e) (spares (is_none empty allzero) (account_rules joined least) s (pick_true _ _ e))

    second : pick empty (null s) false ≡ false → pick allzero (only_zeros s) false ≡ true → Agrees (read_payer empty allzero joined least s) (first_broken (payer_rules empty allzero joined least) s)
    second e f = rw (pick-false _ _ e, pick_true _ _ f) (spares (is_none empty allzero) (account_rules joined least) s (pick-false _ _ e ∙ f))

    other : pick empty (null s) false ≡ false → pick allzero (only_zeros s) false ≡ false → Agrees (read_payer empty allzero joined least s) (first_broken (payer_rules empty allzero joined least) s)
    other e f = rw (pick-false _ _ e, pick-false _ _ f) (sparing (is_none empty allzero) (account_rules joined least) s (pick-false _ _ e ∙ f) (account-agrees joined least s))

-- ---- amounts

-- an amount is read by its form
pub amount-is : (may : Bool) (most : ℕ) (s : List ℕ) → read_amount may most s ≡ pick (is_amount may most s) (value (amount_spelled may s)) (fault 4)
unfolding read_amount is_amount amount_spelled has_comma with_comma given pick
amount-is may most s =
    by-test (pick may (ltb (seek comma s) (length s)) false)
    (λ e. by-test (are_digits 1 11 (crown_bytes s))
    (λ f. by-test (are_digits 2 2 (haler_bytes s))
    (λ g. rw (e, digits_are 1 11 (crown_bytes s), f, digits_are 2 2 (haler_bytes s), g))
    (λ g. rw (e, digits_are 1 11 (crown_bytes s), f, digits_are 2 2 (haler_bytes s), g)))
    (λ f. rw (e, digits_are 1 11 (crown_bytes s), f)))
    (λ e. rw (e, digits_are 1 most s))

pub total-agrees : (may : Bool) → Agree (read_total may) (total_rules may)
unfolding read_total first_broken
total-agrees may s = rw (amount-is may 14 s) (next (is_amount may 14 s) _ 4 refl λ _. takes)

pub amount-agrees : (may : Bool) (most max : ℕ) → Agree (read_item_amount may most max) (amount_rules may most max)
unfolding read_item_amount amount_proper first_broken given pick is_some is_low
amount-agrees may most max s =
    by-test (is_amount may most s)
    (λ e. rw (amount-is may most s, e)
    (by-lt (amount_spelled may s) 1
    (λ l. rw (lt-ltb (amount_spelled may s) 1 l, lt-leb 1 (amount_spelled may s) l) (refuses refl))
    (λ l. rw (le-ltb (amount_spelled may s) 1 l, le-leb 1 (amount_spelled may s) l)
    (by-test (leb (amount_spelled may s) max) (λ f. rw f takes) (λ f. rw f (refuses refl))))))
    (λ e. rw (amount-is may most s, e) (refuses refl))

-- ---- the bank field, symbols

-- the last three rules
abbrev terms : Bool → ℕ → ℕ → ℕ → List Rule
terms here own today date =
    within 11 113 today 0 (own_term here own today date)
    ∷ within 11 113 today 1 (other_term here own today date)
    ∷ within 11 114 today 1 (last_term here today date)
    ∷ []

-- which bank may be due: the own one, or another
module _ (sh : Sheet) (today kind date : ℕ) (s : List ℕ) where
  term-agrees : (b : Bank) → b.bank ≡ bank_of s
      → Agrees (pick (bank_due sh today kind date b.bank) (value b) (fault 11)) (first_broken (terms (collection sh kind) sh.bank today date) s)
  unfolding bank_due collect_allowed first_broken own_term other_term last_term pick
  term-agrees b q =
      by-test (collection sh kind)
      (λ e. by-test (eqb (bank_of s) sh.bank)
      (λ f. by-test (ltb date today)
      (λ g. rw (q, e, f, g) (refuses refl))
      (λ g. by-test (leb date (month_ahead today)) (λ h. rw (q, e, f, g, h) takes) (λ h. rw (q, e, f, g, h) (refuses refl))))
      (λ f. by-test (leb date today)
      (λ g. rw (q, e, f, g) (refuses refl))
      (λ g. by-test (leb date (month_ahead today)) (λ h. rw (q, e, f, g, h) takes) (λ h. rw (q, e, f, g, h) (refuses refl)))))
      (λ e. rw (q, e) takes)

  pub bank-agrees : (ranked : Bool)
      → Agrees (read_due_bank ranked (bank_due sh today kind date) s) (first_broken (bank_rules ranked (collection sh kind) sh.bank today date) s)
  unfolding read_due_bank read_bank ninth first_broken has_bank tenth_zero ninth_zero given pick
  bank-agrees true =
      by-test (are_digits 8 10 s)
      (λ e. by-test (eqb (bank_of s) 0)
      (λ f. rw (digits_are 8 10 s, e, f) (refuses refl))
      (λ f. by-test (ltb 999999999 (spelled s))
      (λ g. rw (digits_are 8 10 s, e, f, g) (refuses refl))
      (λ g. rw (digits_are 8 10 s, e, f, g) (term-agrees _ refl))))
      (λ e. rw (digits_are 8 10 s, e) (refuses refl))
  bank-agrees false =
      by-test (are_digits 8 10 s)
      (λ e. by-test (eqb (bank_of s) 0)
      (λ f. rw (digits_are 8 10 s, e, f) (refuses refl))
      (λ f. by-test (ltb 999999999 (spelled s))
      (λ g. rw (digits_are 8 10 s, e, f, g) (refuses refl))
      (λ g. by-test (eqb (spelled s / 100000000) 0)
      (λ h. rw (digits_are 8 10 s, e, f, g, h) (term-agrees _ refl))
      (λ h. rw (digits_are 8 10 s, e, f, g, h) (refuses refl)))))
      (λ e. rw (digits_are 8 10 s, e) (refuses refl))

pub symbol-agrees : Agree read_symbol (symbol_rules false)
unfolding first_broken pick is_symbol
symbol-agrees s = rw (digits_are 1 10 s) (next (are_digits 1 10 s) _ 4 refl λ _. takes)

pub symbol-or-none-agrees : Agree read_symbol_or_none (symbol_rules true)
unfolding read_symbol_or_none first_broken pick is_symbol
symbol-or-none-agrees s = by-test (null s) (λ e. rw e takes) (λ e. rw (e, digits_are 1 10 s) (next (are_digits 1 10 s) _ 4 refl λ _. takes))
