-- What an item's line says fits: its fields, its tail, and the item. Assumes nothing.
use mathlib.Core.Path.{◌≡◌, refl, ◌∙◌}
use mathlib.Core.Bool.{Bool, true, false}
use mathlib.Core.List.{List, [], ◌∷◌}
use Prim.Native.Nat.{ℕ}
use native.Mathlib.Omega.{arith}
use lib.Dec.{ltb}
use lib.ListN.{drop}
use borrow.Author.Tests.{lt-ltb}
use Rattle.base.specs.Pick.{pick}
use Rattle.base.specs.Seek.{all, seek}
use Rattle.base.proofs.Cases.{pick_true}
use Rattle.sheet.specs.declared.Sheet.{Sheet}
use Rattle.sheet.specs.declared.Style.{Style}
use Rattle.sheet.proofs.Laws.{Sane}
use Rattle.paper.specs.Bytes.{null}
use Rattle.paper.specs.Accounts.{Account, nobody, account_proper, is_nobody, read_account}
use Rattle.paper.specs.Amounts.{read_item_amount}
use Rattle.paper.specs.BankField.{Bank, read_due_bank}
use Rattle.paper.specs.Texts.{Noted, lacks as without, name_proper, part_proper, taken, words_carried, part_carried, name_carried, parts_proper, parts_carried}
use Rattle.paper.specs.Batch.{most14}
use Rattle.paper.specs.Proper.{item_payer_proper}
use Rattle.paper.specs.ItemLine.{read_symbol, part_bytes, item_of}
use Rattle.paper.proofs.LineSays.{Read, Payer, stands, lacks, Symbol, Text, no-text, a_text}
use Rattle.numeral.proofs.Sound.{digits-sound}
use Rattle.numeral.proofs.given.Sound.{symbol-sound}
use Rattle.account.proofs.Sound.{account-sound}
use Rattle.amount.proofs.Sound.{Payable, amount-sound, amount-within, payable-proper}
use Rattle.bank.proofs.Sound.{Proper, bank-sound}
use Rattle.bank.proofs.Due.{due-bank}
use Rattle.text.specs.wording.Wording.{Sendable}
use Rattle.text.proofs.wording.Laws.{text-sound}
use Rattle.roundtrip.specs.linesound.Fits.{ItemFits}

-- ---- the tail

-- no text is a text that every sheet can carry
any : (b : Bool) → pick b true true ≡ true
unfolding pick
any true = refl
any false = refl

no_part : (y : Style) (i : ℕ) → part_carried y i [] ≡ true
unfolding part_carried words_carried taken without null seek all
no_part y i = pick_true _ _ (any (ltb i y.most)) ∙ pick_true _ _ (any y.names) ∙ any y.clean

abbrev none4 : List (List ℕ)
none4 = [] ∷ [] ∷ [] ∷ [] ∷ []

no-texts : (y : Style) → Sendable y none4 []
unfolding parts_proper part_proper name_proper parts_carried name_carried without null seek all pick
no-texts y =
    record {
      four = refl;
      parts-proper = refl;
      parts-carried = rw (no_part y 0, no_part y 1, no_part y 2, no_part y 3);
      name-proper = refl;
      name-carried = any y.names;
    }

texts-fit : (y : Style) {w : List ℕ} {t : Noted} → Text y w t → Sendable y (part_bytes t) t.name.bytes
texts-fit y no-text = no-texts y
texts-fit y {w} (a_text at {t} e) = (text-sound y at (drop at w) t e).sendable

-- ---- the line

payer-single : (a : Account) → account_proper a ≡ true → item_payer_proper true a ≡ true
unfolding item_payer_proper pick
payer-single a h = h

payer-none : item_payer_proper false nobody ≡ true
unfolding item_payer_proper is_nobody pick
payer-none = refl

module _ (sh : Sheet) where
  payer-fits : {single : Bool} {payer : Account} → Payer (read_account sh.joined sh.basemin) single payer → item_payer_proper single payer ≡ true
  payer-fits (stands {a} f) = payer-single a (account-sound sh.joined sh.basemin f.0 a f.1)
  payer-fits lacks = payer-none

  pub item-fits : Sane sh → (due : ℕ → Bool)
      → {single : Bool} {w : List ℕ} {payer payee : Account} {amount variable specific : ℕ} {bank : Bank} {texts : Noted}
      → Payer (read_account sh.joined sh.basemin) single payer → Read (read_account sh.joined sh.basemin) payee
      → Read (read_item_amount sh.comma sh.itemdigits sh.itemmax) amount → Read read_symbol variable → Read (read_due_bank sh.priority due) bank
      → Symbol specific → Text sh.text w texts → ItemFits sh due single (item_of payer payee amount variable specific bank texts)
  item-fits sane due {payee = payee} {amount = amount} {variable = variable} {specific = specific} {bank = bank} p f a v b s t =
      let m : Payable sh.itemmax amount = amount-within sh.comma sh.itemdigits sh.itemmax a.0 amount a.1 in
      let (i, d) = due-bank due sh.priority b.0 bank b.1 in
      let k : Proper sh.priority bank = bank-sound sh.priority b.0 bank i in
      record {
        payer-proper = payer-fits p;
        payee_proper = account-sound sh.joined sh.basemin f.0 payee f.1;
        bank-proper = k.bank_is;
        bank-due = d;
        amount-proper = payable-proper most14 amount m.some (omega (arith, m.within, sane.item_low));
        amount_carried = amount-sound sh.comma sh.itemdigits sh.itemmax a.0 amount a.1;
        variable_low = lt-ltb variable 10000000000 (digits-sound 1 10 v.0 variable v.1);
        specific_low = lt-ltb specific 10000000000 (symbol-sound s);
        constant_low = lt-ltb bank.constant 10000 k.constant_is;
        priority-proper = k.priority_is;
        priority-carried = k.carried;
        texts = texts-fit sh.text t;
      }
