-- One step of an answer r over the fields of an item's line s, for `search`: n is what a field's reader answered. Assumes nothing.
use mathlib.Core.Path.{◌≡◌, sym, ◌∙◌}
use mathlib.Core.Bool.{Bool, true}
use mathlib.Core.List.{List}
use Prim.Native.Nat.{ℕ, ◌+◌, ◌≤◌}
use native.Mathlib.Nat.{add-zero}
use lib.ListN.{length, drop}
use Rattle.std.proofs.Common.{Some, Result, Ok, Err, ap}
use Rattle.refusal.specs.declared.Refusal.{Refusal}
use Rattle.refusal.specs.declared.Flaw.{Flaw}
use Rattle.refusal.specs.Numbers.{number_of}
use Rattle.refusal.specs.Placed.{placed}
use Rattle.refusal.proofs.Places.{was-ok, was-err}
use Rattle.sheet.specs.declared.Style.{Style}
use Rattle.sheet.specs.declared.Sheet.{Sheet}
use Rattle.sheet.specs.declared.Limits.{Limits}
use Rattle.sheet.specs.Sheets.{LimitsOf}
use Rattle.paper.specs.Accounts.{read_account}
use Rattle.paper.specs.Amounts.{read_item_amount}
use Rattle.paper.specs.BankField.{read_due_bank}
use Rattle.paper.specs.Texts.{Noted, read_text}
use Rattle.paper.specs.Read.{Field}
use Rattle.paper.specs.Entries.{Counted, no, counted, field, gap}
use Rattle.paper.specs.ItemLine.{read_symbol, read_item}
use Rattle.base.proofs.Cases.{pick_true}
use Rattle.base.proofs.Lists.{drop-none}
use Rattle.numeral.specs.field.At.{field_at}
use Rattle.numeral.specs.declared.field.Run.{Run}
use Rattle.numeral.specs.field.Told as number
use Rattle.numeral.proofs.field.Steps.{number-within, steps}
use Rattle.numeral.specs.field.Kept.{keeping, nothing}
use Rattle.numeral.specs.field.Told.{passed}
use Rattle.numeral.proofs.field.Kept.{kept_field, missed-kept, passed-field, refused-field, passed-within}
use Rattle.text.specs.declared.span.Spans.{Spans}
use Rattle.text.specs.Told as texts
use Rattle.text.specs.Told.{count_text}
use Rattle.calendar.specs.declared.term.Banks.{Banks}
use Rattle.calendar.specs.term.Allows.{allows}
use Rattle.bank.specs.declared.at.Warned.{Warned}
use Rattle.bank.specs.at.Told as warned
use Rattle.bank.specs.at.Warned.{warnings_of}
use Rattle.bank.proofs.at.Steps.{bank-within, bank_low}
use Rattle.itemline.proofs.tail.Steps.{step-plain, step-text, step-no-tail, text-within}
use Rattle.itemline.specs.declared.tail.Tail.{Tail}
use Rattle.itemline.specs.tail.Told.{tail_of}
use Rattle.itemline.specs.tail.Told as tail
use Rattle.itemline.specs.Walk.{spaced, from_bank, from_variable, from_amount, from_payee, payer_first}
use Rattle.itemline.proofs.Steps.{step-texts, step-no-texts, texts-few}
use Rattle.itemline.specs.judge.Brief.{kept, kept_texts, kept_bank, kept_variable, kept_payee, any_payer, brief}
use Rattle.itemline.specs.judge.Told.{told_from, InsideFrom}
use Rattle.itemline.proofs.judge.Brief.{line-brief}

-- no text gives no warning
pub kept-plain : (amount warnings : ℕ) → kept amount warnings ≡ kept amount (warnings + 0)
kept-plain amount warnings = rw (add-zero warnings)

-- ---- a tail with a text: t is what the tail's reader answered, x what the text's did

module _ (s : List ℕ) (at : ℕ) (fixed bare : Bool) (t : Result Tail Flaw) (g : (y : Style) (k : ℕ → Noted → Counted) → tail.told y s t k ≡ tail_of y fixed bare k at (drop at s))
    (y : Style) (d : Tail) (f : t ≡ Ok d) (from : ℕ) (e : d.text ≡ Some from) (x : Result Spans Refusal) (h : texts.told s x ≡ count_text (read_text y from (drop from s)))
    (m : Result Spans Flaw) (j : m ≡ placed x from) (r : Counted) (amount w : ℕ) where
  pub tail-texts : (p : Spans) → m ≡ Ok p → r ≡ kept amount (w + p.warnings) → r ≡ tail_of y fixed bare (kept_texts amount w) at (drop at s)
  tail-texts p z q = step-text s at fixed bare t g y r (kept_texts amount w) d f from e (step-texts y s from x h m j r amount w d.specific p z q)

  pub tail-no-texts : (c : Flaw) → m ≡ Err c → r ≡ no (number_of c.0) c.1 → r ≡ tail_of y fixed bare (kept_texts amount w) at (drop at s)
  tail-no-texts c z q = step-text s at fixed bare t g y r (kept_texts amount w) d f from e (step-no-texts y s from x h m j r amount w d.specific c z q)

-- ---- the amount, within the limits that the sheet gave: n is what its reader answered

pub amount-limit : (sh : Sheet) (l : Limits) → LimitsOf sh l → (may : Bool) (s : List ℕ) (at : ℕ) (n : Result Run Refusal)
    → number.told n ≡ field_at (read_item_amount may l.digits l.amount) s at → number.told n ≡ field_at (read_item_amount may sh.itemdigits sh.itemmax) s at
amount-limit sh l of may s at n g = rw (of.digits, of.amount) at g

-- ---- the bank field: n is what its judge answered

-- .. by the code that the sheet gave
pub own_code : (sh : Sheet) (own : ℕ) → own ≡ sh.bank → (banks : Banks) (s : List ℕ) (at : ℕ) (n : Result Warned Refusal)
    → warned.told n ≡ keeping warnings_of (field_at (read_due_bank sh.priority (allows banks own)) s at)
    → warned.told n ≡ keeping warnings_of (field_at (read_due_bank sh.priority (allows banks sh.bank)) s at)
own_code sh own e banks s at n g = rw e at g

module _ (sh : Sheet) (due : ℕ → Bool) (amount : ℕ) (s : List ℕ) (at : ℕ) (n : Result Warned Refusal)
    (g : warned.told n ≡ keeping warnings_of (field_at (read_due_bank sh.priority due) s at)) (m : Result Warned Flaw) (h : m ≡ placed n at) (r : Counted) where
  pub step-bank : (d : Warned) → m ≡ Ok d → r ≡ tail_of sh.text sh.fixedtail sh.bare (kept_texts amount d.warnings) d.end (drop d.end s) → r ≡ from_bank sh due (kept_bank amount) at (drop at s)
  unfolding from_bank kept_bank
  step-bank d f q =
      q
      ∙ sym (kept_field warnings_of (read_due_bank sh.priority due) s at d.warnings d.end (rw (was-ok n at d (sym h ∙ f)) at g) (λ w a t. tail_of sh.text sh.fixedtail sh.bare (kept_texts amount w) a t))

  pub step-no-bank : (x : Flaw) → m ≡ Err x → r ≡ no (number_of x.0) x.1 → r ≡ from_bank sh due (kept_bank amount) at (drop at s)
  unfolding from_bank
  step-no-bank x f q =
      let w = was-err n at x (sym h ∙ f) in
      q ∙ (ap (no (number_of x.0)) (sym w.1) ∙ sym (missed-kept warnings_of (read_due_bank sh.priority due) s at (number_of x.0) (rw w.0 at g) _))

-- its end lies in the line, and it warns once at most
module _ (ranked : Bool) (due : ℕ → Bool) (s : List ℕ) (at : ℕ) (n : Result Warned Refusal) (g : warned.told n ≡ keeping warnings_of (field_at (read_due_bank ranked due) s at))
    (m : Result Warned Flaw) (h : m ≡ placed n at) (d : Warned) (f : m ≡ Ok d) where
  pub placed-bank-within : at ≤ length s → d.end ≤ length s
  placed-bank-within l = bank-within ranked due s at n g d (was-ok n at d (sym h ∙ f)) l

  pub placed-bank-low : d.warnings ≤ 1
  placed-bank-low = bank_low ranked due s at n g d (was-ok n at d (sym h ∙ f))

-- ---- a field of which nothing is kept: n is what its judge answered, m the same with the refusal's place

module _ {A : Type 0} (read : List ℕ → Field A) (s : List ℕ) (at : ℕ) (n : Result ℕ Refusal) (g : passed n ≡ keeping nothing (field_at read s at))
    (m : Result ℕ Flaw) (h : m ≡ placed n at) where
  go-on : (e : ℕ) → m ≡ Ok e → (k : ℕ → List ℕ → Counted) → field read at (drop at s) (λ v a t. k a t) ≡ k e (drop e s)
  go-on e f k = passed-field read s at n g e (was-ok n at e (sym h ∙ f)) k

  stop : (x : Flaw) → m ≡ Err x → (r : Counted) → r ≡ no (number_of x.0) x.1 → (k : A → ℕ → List ℕ → Counted) → r ≡ field read at (drop at s) k
  stop x f r q k =
      let w = was-err n at x (sym h ∙ f) in
      q ∙ (ap (no (number_of x.0)) (sym w.1) ∙ sym (refused-field read s at n g x.0 w.0 k))

  pub placed-within : at ≤ length s → (e : ℕ) → m ≡ Ok e → e ≤ length s
  placed-within l e f = passed-within read s at n g e (was-ok n at e (sym h ∙ f)) l

-- the amount's end lies in the line
pub placed-number-within : (read : List ℕ → Field ℕ) (s : List ℕ) (at : ℕ) (n : Result Run Refusal) → number.told n ≡ field_at read s at → (m : Result Run Flaw) → m ≡ placed n at
    → (d : Run) → m ≡ Ok d → at ≤ length s → d.end ≤ length s
placed-number-within read s at n g m h d f l = number-within read s at n g d (was-ok n at d (sym h ∙ f)) l

-- ---- the variable symbol: n is what its judge answered

module _ (sh : Sheet) (due : ℕ → Bool) (amount : ℕ) (s : List ℕ) (at : ℕ) (n : Result ℕ Refusal) (g : passed n ≡ keeping nothing (field_at read_symbol s at))
    (m : Result ℕ Flaw) (h : m ≡ placed n at) (r : Counted) where
  pub step-variable : (e : ℕ) → m ≡ Ok e → r ≡ gap e (drop e s) (λ a t. from_bank sh due (kept_bank amount) a t) → r ≡ from_variable sh due (kept_variable amount) at (drop at s)
  unfolding from_variable spaced kept_variable
  step-variable e f q = q ∙ sym (go-on read_symbol s at n g m h e f (λ a t. gap a t (λ b u. from_bank sh due (kept_bank amount) b u)))

  pub step-no-variable : (x : Flaw) → m ≡ Err x → r ≡ no (number_of x.0) x.1 → r ≡ from_variable sh due (kept_variable amount) at (drop at s)
  unfolding from_variable spaced kept_variable
  step-no-variable x f q = stop read_symbol s at n g m h x f r q _

-- ---- accounts: n is what their judge answered

module _ (n : Result ℕ Refusal) (m : Result ℕ Flaw) (s : List ℕ) (r : Counted) where
  module _ (sh : Sheet) (due : ℕ → Bool) (at : ℕ) (g : passed n ≡ keeping nothing (field_at (read_account sh.joined sh.basemin) s at)) (h : m ≡ placed n at) where
    pub step-payee : (e : ℕ) → m ≡ Ok e → r ≡ gap e (drop e s) (λ a t. from_amount sh due kept_variable a t) → r ≡ from_payee sh due kept_payee at (drop at s)
    unfolding from_payee spaced kept_payee
    step-payee e f q = q ∙ sym (go-on (read_account sh.joined sh.basemin) s at n g m h e f (λ a t. gap a t (λ b u. from_amount sh due kept_variable b u)))

    pub step-no-payee : (x : Flaw) → m ≡ Err x → r ≡ no (number_of x.0) x.1 → r ≡ from_payee sh due kept_payee at (drop at s)
    unfolding from_payee spaced kept_payee
    step-no-payee x f q = stop (read_account sh.joined sh.basemin) s at n g m h x f r q _

  -- the line's first field, where the group is single
  module _ (joined : Bool) (least : ℕ) (g : passed n ≡ keeping nothing (field_at (read_account joined least) s 0)) (h : m ≡ placed n 0) (single : Bool) (y : single ≡ true) (k : ℕ → List ℕ → Counted) where
    pub step-first : (e : ℕ) → m ≡ Ok e → r ≡ gap e (drop e s) k → r ≡ payer_first joined least single s (any_payer k)
    unfolding payer_first spaced any_payer
    step-first e f q =
        q ∙ sym (pick_true _ _ y ∙ rw drop-none at (go-on (read_account joined least) s 0 n g m h e f (λ a t. gap a t (λ b u. k b u))))

    pub step-no-first : (x : Flaw) → m ≡ Err x → r ≡ no (number_of x.0) x.1 → r ≡ payer_first joined least single s (any_payer k)
    unfolding payer_first spaced any_payer
    step-no-first x f q =
        rw drop-none at (stop (read_account joined least) s 0 n g m h x f r q (λ v a t. gap a t (λ b u. k b u))) ∙ sym (pick_true _ _ y)

-- ---- the payer: t is what its reader answered

-- the whole line is read where the payer is not there
pub no-payer : (s : List ℕ) (k : ℕ → List ℕ → Counted) → k 0 (drop 0 s) ≡ k 0 s
no-payer s k = rw drop-none

module _ (joined : Bool) (least : ℕ) (single : Bool) (s : List ℕ) (t : Result ℕ Flaw)
    (g : (k : ℕ → List ℕ → Counted) → told_from s t k ≡ payer_first joined least single s (any_payer k)) (r : Counted) (k : ℕ → List ℕ → Counted) where
  pub step-payer : (at : ℕ) → t ≡ Ok at → r ≡ k at (drop at s) → r ≡ payer_first joined least single s (any_payer k)
  step-payer at f q = q ∙ (rw f at (g k))

  pub step-no-payer : (x : Flaw) → t ≡ Err x → r ≡ no (number_of x.0) x.1 → r ≡ payer_first joined least single s (any_payer k)
  step-no-payer x f q = q ∙ (rw f at (g k))

pub payer-within : (s : List ℕ) (t : Result ℕ Flaw) → InsideFrom s t → (at : ℕ) → t ≡ Ok at → at ≤ length s
payer-within s t i at f = rw f at i

-- ---- the whole line

pub by-stages : (sh : Sheet) (due : ℕ → Bool) (single : Bool) (s : List ℕ) (r : Counted) → r ≡ payer_first sh.joined sh.basemin single s (any_payer (from_payee sh due kept_payee)) → r ≡ brief (counted (read_item sh due single s))
by-stages sh due single s r q = q ∙ sym (line-brief sh due single s)

pub ruleset items = (amount-limit, own_code, step-payee, step-no-payee, step-first, step-no-first, step-variable, step-no-variable, step-bank, step-no-bank, tail-texts, tail-no-texts, step-plain, step-no-tail, kept-plain, step-payer, step-no-payer, no-payer, by-stages, steps)

pub ruleset bounds = (own_code, placed-within, placed-number-within, placed-bank-within, text-within, payer-within, placed-bank-low, texts-few)
