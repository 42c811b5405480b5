-- The canonical line of an item is read as that item, with no warning. Assumes nothing.
use mathlib.Core.Path.{◌≡◌, refl, sym, ap, ◌∙◌}
use mathlib.Core.Bool.{Bool, true, false}
use mathlib.Core.List.{List, [], ◌∷◌, ◌++◌, append_assoc}
use Prim.Native.Nat.{ℕ}
use native.Mathlib.Omega.{arith}
use borrow.Author.Tests.{ltb-true}
use Rattle.base.specs.Pick.{pick}
use Rattle.base.proofs.Cases.{pick_true, pick-false}
use Rattle.sheet.specs.declared.Sheet.{Sheet}
use Rattle.sheet.proofs.Laws.{Sane}
use Rattle.paper.specs.Numerals.{decimal}
use Rattle.paper.specs.Warnings.{low_priority, Notice, notices}
use Rattle.paper.specs.Accounts.{Account, nobody, account_proper, is_nobody, read_account, spell_account}
use Rattle.paper.specs.Amounts.{read_item_amount}
use Rattle.paper.specs.BankField.{Bank, read_due_bank, spell_bank}
use Rattle.paper.specs.Texts.{Noted}
use Rattle.paper.specs.Batch.{Item}
use Rattle.paper.specs.Proper.{item_payer_proper}
use Rattle.paper.specs.Entries.{item, Places, Listed, said, item_line, kind_of, gap}
use Rattle.paper.specs.ItemLine.{read_symbol, tail, part_bytes, places, item_of, from_payee, read_item, spell_tail, spell_item}
use Rattle.account.proofs.Plain.{spell-account-field}
use Rattle.account.proofs.Proper.{proper-somebody}
use Rattle.account.proofs.Back.{account-back}
use Rattle.amount.proofs.Back.{amount-back}
use Rattle.bank.proofs.Back.{spell-bank-plain}
use Rattle.bank.proofs.Due.{due-bank-back}
use Rattle.roundtrip.specs.linesound.Fits.{ItemFits}
use Rattle.roundtrip.proofs.linesound.Items.{fits-nobody}
use Rattle.roundtrip.proofs.lineback.Fields.{at_space, digits-field, field_back, onward}
use Rattle.roundtrip.proofs.lineback.Starts.{kind-account}
use Rattle.roundtrip.proofs.lineback.Tail.{symbol-field, symbol-back, tail-back, tail-stops}

-- ---- what is spelled

-- from the payee on
abbrev pub behind_payer : Sheet → Item → List ℕ
behind_payer sh x =
    spell_account x.payee ++ (32 ∷ (decimal x.amount ++ (32 ∷ (decimal x.variable ++ (32 ∷ (spell_bank x.bank x.constant x.priority
    ++ spell_tail sh x.specific x.parts x.name))))))

module _ (sh : Sheet) (x : Item) where
  pub single-is : is_nobody x.payer ≡ false → spell_item sh x ≡ spell_account x.payer ++ (32 ∷ behind_payer sh x)
  unfolding spell_item
  single-is e =
      ap (λ (l : List ℕ). l ++ behind_payer sh x) (pick-false [] (spell_account x.payer ++ (32 ∷ [])) e)
      ∙ append_assoc (spell_account x.payer) (32 ∷ []) (behind_payer sh x)

  pub collective-is : is_nobody x.payer ≡ true → spell_item sh x ≡ behind_payer sh x
  unfolding spell_item
  collective-is e = ap (λ (l : List ℕ). l ++ behind_payer sh x) (pick_true [] (spell_account x.payer ++ (32 ∷ [])) e)

-- ---- what is read

abbrev bank_of : Item → Bank
bank_of x = record { bank = x.bank; constant = x.constant; priority = x.priority; warnings = 0 }

same_item : (x : Item) (payer : Account) (t : Noted) → payer ≡ x.payer → part_bytes t ≡ x.parts → t.name.bytes ≡ x.name
    → item_of payer x.payee x.amount x.variable x.specific (bank_of x) t ≡ x
same_item x payer t e f g = rw (e, f, g)

said_same : (i x : Item) (w : List Notice) (p : Places) → i ≡ x → w ≡ [] → ◌≡◌ {A = Listed} (said (item i) w p) (said (item x) [] p)
said_same i x w p e f = rw (e, f)

module _ (sh : Sheet) (sane : Sane sh) (due : ℕ → Bool) (single : Bool) (x : Item) (f : ItemFits sh due single x) where
  abbrev Reads : Listed → Type 0
  Reads r = (p : Places) × (r ≡ said (item x) [] p)

  tail-said : (payer : Account) → payer ≡ x.payer → (bank at : ℕ)
      → Reads (tail sh at (spell_tail sh x.specific x.parts x.name) λ specific texts.
      said (item (item_of payer x.payee x.amount x.variable specific (bank_of x) texts)) (notices low_priority bank 0 ++ texts.warnings) (places texts))
  unfolding notices
  tail-said payer e bank at =
      let t = tail-back sh sane x.specific (ltb-true x.specific 10000000000 f.specific_low) x.parts x.name f.texts at in (
        places t.texts,
        t.reads _
            ∙ said_same _ x _ _ (same_item x payer t.texts e t.parts_back t.name_back) t.no_warning,
      )

  payee-said : (payer : Account) → payer ≡ x.payer → (at : ℕ) → Reads (from_payee sh due payer at (behind_payer sh x))
  unfolding from_payee gap
  payee-said payer e at =
      onward
      (field_back (read_account sh.joined sh.basemin) at (spell_account x.payee) x.payee _ _ (spell-account-field x.payee) at_space
      (account-back x.payee f.payee_proper sh.joined sh.basemin sane.base_few)
      ∙ field_back (read_item_amount sh.comma sh.itemdigits sh.itemmax) _ (decimal x.amount) x.amount _ _ (symbol-field x.amount) at_space
      (amount-back sh.comma sh.itemdigits sh.itemmax x.amount (omega (arith, sane.digits_some)) (omega (arith, sane.digits_few)) sane.item-fits
      f.amount_carried)
      ∙ field_back read_symbol _ (decimal x.variable) x.variable _ _ (symbol-field x.variable) at_space
      (symbol-back x.variable (ltb-true x.variable 10000000000 f.variable_low))
      ∙ field_back (read_due_bank sh.priority due) _ (spell_bank x.bank x.constant x.priority) (bank_of x) _ _
      (digits-field _ (spell-bank-plain x.bank x.constant x.priority)) (tail-stops sh x.specific x.parts x.name)
      (due-bank-back due sh.priority x.bank x.constant x.priority f.bank-due f.bank-proper
      (ltb-true x.constant 10000 f.constant_low) f.priority-proper f.priority-carried))
      (tail-said payer e _ _)

payer-is : (a : Account) → item_payer_proper true a ≡ true → account_proper a ≡ true
unfolding item_payer_proper pick
payer-is a h = h

payer-none : (a : Account) → item_payer_proper false a ≡ true → is_nobody a ≡ true
unfolding item_payer_proper pick
payer-none a h = h

pub kind-of : (sh : Sheet) (due : ℕ → Bool) (single : Bool) (x : Item) → ItemFits sh due single x → kind_of (spell_item sh x) ≡ item_line
kind-of sh due true x f =
    let p = payer-is x.payer f.payer-proper in
    ap kind_of (single-is sh x (proper-somebody x.payer p)) ∙ kind-account x.payer p _
kind-of sh due false x f = ap kind_of (collective-is sh x (payer-none x.payer f.payer-proper)) ∙ kind-account x.payee f.payee_proper _

pub item_back : (sh : Sheet) → Sane sh → (due : ℕ → Bool) (single : Bool) (x : Item) → ItemFits sh due single x
    → (p : Places) × (read_item sh due single (spell_item sh x) ≡ said (item x) [] p)
unfolding read_item gap pick
item_back sh sane due true x f =
    let p = payer-is x.payer f.payer-proper in
    onward
    (ap (read_item sh due true) (single-is sh x (proper-somebody x.payer p))
    ∙ field_back (read_account sh.joined sh.basemin) 0 (spell_account x.payer) x.payer _ _ (spell-account-field x.payer) at_space
    (account-back x.payer p sh.joined sh.basemin sane.base_few))
    (payee-said sh sane due true x f x.payer refl _)
item_back sh sane due false x f =
    onward
    (ap (read_item sh due false) (collective-is sh x (payer-none x.payer f.payer-proper)))
    (payee-said sh sane due false x f nobody (sym (fits-nobody sh due false x f refl)) 0)
