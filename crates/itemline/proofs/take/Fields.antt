-- The fields of an item's line that says something, where they are more than a number and a space behind it: amount, bank field, payer, and the
-- whole line. Assumes nothing.
use mathlib.Core.Path.{◌≡◌, refl, sym, ◌∙◌}
use mathlib.Core.Bool.{Bool, true, false}
use mathlib.Core.List.{List}
use Prim.Native.Nat.{ℕ, ◌+◌, ◌≤◌, ◌<◌}
use native.Mathlib.Omega.{arith}
use mir.Val.{Fits}
use mir.Syntax.{w64}
use lib.ListN.{length, drop}
use Rattle.base.proofs.Cases.{pick_true, pick-false}
use Rattle.base.proofs.Lists.{drop-none}
use Rattle.sheet.specs.declared.Sheet.{Sheet}
use Rattle.sheet.specs.declared.Limits.{Limits}
use Rattle.sheet.specs.Sheets.{LimitsOf}
use Rattle.paper.specs.Read.{Field}
use Rattle.paper.specs.Accounts as paper
use Rattle.paper.specs.Accounts.{read_account}
use Rattle.paper.specs.Amounts.{read_item_amount}
use Rattle.paper.specs.BankField as banks
use Rattle.paper.specs.BankField.{read_bank}
use Rattle.paper.specs.Batch.{most14}
use Rattle.paper.specs.Bytes.{field_of}
use Rattle.paper.specs.Entries.{Counted, counted, field, gap}
use Rattle.paper.specs.ItemLine.{is_value, read_item}
use Rattle.amount.proofs.Sound.{amount-within}
use Rattle.bank.proofs.Sound.{bank-warnings}
use Rattle.bank.proofs.Due.{any-due-bank}
use Rattle.numeral.specs.field.At.{found, field_at}
use Rattle.numeral.proofs.field.Steps.{found-value, found-end, found_within, found-field, step-gap}
use Rattle.itemline.specs.tail.Told.{tail_of}
use Rattle.itemline.specs.Walk.{any_bank, spaced, from_bank, from_payee, payer_first, walk, item_said}
use Rattle.itemline.proofs.Steps.{item-walk}
use Rattle.numeral.specs.placed.Known.{There}
use Rattle.account.specs.at.Told.{told_account}
use Rattle.bank.specs.at.Told.{told_bank}
use Rattle.account.specs.declared.at.Account.{Account}
use Rattle.bank.specs.declared.at.Bank.{Bank}
use Rattle.itemline.specs.declared.take.Paid.{Paid}
use Rattle.itemline.specs.declared.take.Front.{Front}
use Rattle.numeral.specs.placed.Said.{is_said}
use Rattle.itemline.specs.take.Made.{taken, made_paid, made, Small}
use Rattle.numeral.proofs.placed.Goes.{said-as, said-counted, field-value}
use Rattle.itemline.proofs.take.Stages.{stage-there}

-- ---- the amount: v and e are its value and its end

-- .. within the limits l that the sheet gave
module _ (sh : Sheet) (l : Limits) (of : LimitsOf sh l) (may : Bool) (s : List ℕ) (at : ℕ) where
  pub limit-there : There (read_item_amount may sh.itemdigits sh.itemmax) s at → There (read_item_amount may l.digits l.amount) s at
  limit-there h = rw (of.digits, of.amount) h

  pub limit-found : (v e : ℕ) → found v e ≡ field_at (read_item_amount may l.digits l.amount) s at → found v e ≡ field_at (read_item_amount may sh.itemdigits sh.itemmax) s at
  limit-found v e g = rw (of.digits, of.amount) at g

pub ruleset limits = (limit-there, limit-found)

pub amount-low : (may : Bool) (most max : ℕ) (s : List ℕ) (at v e : ℕ) → found v e ≡ field_at (read_item_amount may most max) s at → max ≤ most14 → v ≤ most14
amount-low may most max s at v e g m = omega (arith, (amount-within may most max _ v (found-value (read_item_amount may most max) s at v e g)).within)

-- ---- the bank field: b is what its taker answered

abbrev value_of : Bank → banks.Bank
value_of b = record { bank = b.bank; constant = b.constant; priority = b.priority; warnings = b.warnings }

-- all that was taken before the tail
abbrev front : Paid → ℕ → Bank → Front
front paid variable b = record { paid = paid; variable = variable; bank = b.bank; constant = b.constant; priority = b.priority; warnings = b.warnings }

module _ (ranked : Bool) (s : List ℕ) (at : ℕ) (b : Bank) (g : told_bank b ≡ field_at (read_bank ranked) s at) where
  pub bank-within : at ≤ length s → b.end ≤ length s
  bank-within = found_within (read_bank ranked) s at (value_of b) b.end g

  bank-few : b.warnings ≤ 1
  bank-few = bank-warnings ranked _ (value_of b) (found-value (read_bank ranked) s at (value_of b) b.end g)

  pub front-small : (paid : Paid) (variable : ℕ) → paid.amount ≤ most14
      → Small (front paid variable b)
  front-small paid variable l = record { low = l; few = bank-few }

module _ (sh : Sheet) (paid : Paid) (variable : ℕ) (s : List ℕ) (at : ℕ) where
  abbrev rest : banks.Bank → ℕ → List ℕ → Counted
  rest b a1 s1 = tail_of sh.text sh.fixedtail sh.bare (made_paid paid variable b) a1 s1

  -- where every bank may be due, the field is as it stands
  bank-any : from_bank sh any_bank (made_paid paid variable) at (drop at s) ≡ field (read_bank sh.priority) at (drop at s) (λ b a1 s1. rest b a1 s1)
  unfolding from_bank field
  bank-any = rw (any-due-bank any_bank (λ b. refl) sh.priority (field_of (drop at s)))

  pub bank-value : is_said (from_bank sh any_bank (made_paid paid variable) at (drop at s)) ≡ true → is_value (read_bank sh.priority (field_of (drop at s))) ≡ true
  bank-value h = field-value (read_bank sh.priority) s at (λ b a1 s1. rest b a1 s1) (said-as _ _ h bank-any)

  module _ (b : Bank) (g : told_bank b ≡ field_at (read_bank sh.priority) s at) where
    to-tail : from_bank sh any_bank (made_paid paid variable) at (drop at s) ≡ tail_of sh.text sh.fixedtail sh.bare (made (front paid variable b)) b.end (drop b.end s)
    unfolding made
    to-tail = bank-any ∙ found-field (read_bank sh.priority) s at (value_of b) b.end g (λ b a1 s1. rest b a1 s1)

    pub bank-said : is_said (from_bank sh any_bank (made_paid paid variable) at (drop at s)) ≡ true → is_said (tail_of sh.text sh.fixedtail sh.bare (made (front paid variable b)) b.end (drop b.end s)) ≡ true
    bank-said h = said-as _ _ h to-tail

    pub bank-is : (r : Counted) → r ≡ tail_of sh.text sh.fixedtail sh.bare (made (front paid variable b)) b.end (drop b.end s) → r ≡ from_bank sh any_bank (made_paid paid variable) at (drop at s)
    bank-is r e = e ∙ sym to-tail

pub ruleset bankings = (bank-value, bank-within, front-small, bank-said, bank-is)

-- ---- the payer, where the group is single: p is what its taker answered

-- the line's first field
at-first : {A : Type 0} (read : List ℕ → Field A) (s : List ℕ) (k : A → ℕ → List ℕ → Counted) → spaced read 0 (drop 0 s) k ≡ spaced read 0 s k
at-first read s k = rw drop-none

module _ (joined : Bool) (least : ℕ) (single : Bool) (s : List ℕ) (y : single ≡ true) (h : single ≡ true → There (read_account joined least) s 0) where
  pub payer-there : There (read_account joined least) s 0
  payer-there = h y

  module _ (p : Account) (g : told_account p ≡ field_at (read_account joined least) s 0) where
    inside : p.end < length s
    inside = omega (arith, found-end (read_account joined least) s 0 (taken p) p.end g, payer-there.on)

    pub payer-room : length s < 18446744073709551616 → Fits w64 (p.end + 1)
    payer-room l = omega (arith, inside)

    pub payer-is : (k : paper.Account → ℕ → List ℕ → Counted) (r : Counted) → r ≡ k (taken p) (p.end + 1) (drop (p.end + 1) s) → r ≡ payer_first joined least single s k
    unfolding payer_first spaced
    payer-is k r e =
        step-gap r s p.end inside (λ a2 s2. k (taken p) a2 s2) e
        ∙ (sym (found-field (read_account joined least) s 0 (taken p) p.end g (λ payer a1 s1. gap a1 s1 λ a2 s2. k payer a2 s2))
        ∙ (at-first (read_account joined least) s k ∙ sym (pick_true _ _ y)))

pub no-payer : (joined : Bool) (least : ℕ) (single : Bool) (s : List ℕ) → single ≡ false → (k : paper.Account → ℕ → List ℕ → Counted) (r : Counted)
    → r ≡ k (paper.account 0 0) 0 (drop 0 s) → r ≡ payer_first joined least single s k
unfolding payer_first
no-payer joined least single s y k r e = rw drop-none at e ∙ sym (pick-false _ _ y)

pub ruleset payers = (payer-there, payer-room, payer-is, no-payer, refl)

-- ---- the whole line

module _ (sh : Sheet) (single : Bool) (s : List ℕ) (h : is_said (read_item sh any_bank single s) ≡ true) where
  pub first-there : single ≡ true → There (read_account sh.joined sh.basemin) s 0
  unfolding walk payer_first
  first-there y =
      stage-there (read_account sh.joined sh.basemin) s 0 (λ payer at rest. from_payee sh any_bank (item_said payer) at rest)
      (said-as _ _ (said-counted _ ∙ h) (item-walk sh any_bank single s ∙ (pick_true _ _ y ∙ sym (at-first (read_account sh.joined sh.basemin) s (λ payer at rest. from_payee sh any_bank (item_said payer) at rest)))))

  module _ (p : Account) (g : (k : paper.Account → ℕ → List ℕ → Counted) → k (taken p) p.end (drop p.end s) ≡ payer_first sh.joined sh.basemin single s k) where
    to-payee : counted (read_item sh any_bank single s) ≡ from_payee sh any_bank (item_said (taken p)) p.end (drop p.end s)
    unfolding walk
    to-payee = item-walk sh any_bank single s ∙ sym (g (λ payer at rest. from_payee sh any_bank (item_said payer) at rest))

    pub payee-said : is_said (from_payee sh any_bank (item_said (taken p)) p.end (drop p.end s)) ≡ true
    payee-said = said-as _ _ (said-counted _ ∙ h) to-payee

    pub item-is : (r : Counted) → r ≡ from_payee sh any_bank (item_said (taken p)) p.end (drop p.end s) → r ≡ counted (read_item sh any_bank single s)
    item-is r e = e ∙ sym to-payee

pub ruleset lines = (first-there, payee-said, item-is)
