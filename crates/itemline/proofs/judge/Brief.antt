-- What is kept of an item's line is had field by field: `brief` passes each way to read a line. Assumes nothing.
use mathlib.Core.Path.{◌≡◌, refl}
use mathlib.Core.Bool.{Bool}
use mathlib.Core.List.{List}
use Prim.Native.Nat.{ℕ}
use native.Mathlib.Omega.{arith}
use Rattle.sheet.specs.declared.Sheet.{Sheet}
use Rattle.paper.specs.Accounts.{Account, nobody}
use Rattle.paper.specs.BankField.{Bank}
use Rattle.paper.specs.Texts.{Noted}
use Rattle.paper.specs.Entries.{Counted, got, no, counted, on_item, on_entry}
use Rattle.paper.specs.ItemLine.{read_item}
use Rattle.paper.proofs.Passing.{Keeps, field-passes, pick-passes}
use Rattle.itemline.specs.tail.Told.{tail_of}
use Rattle.itemline.specs.Walk.{spaced, from_bank, from_variable, from_amount, from_payee, payer_first, walk, item_said}
use Rattle.itemline.proofs.Steps.{tail-passes, spaced-passes, item-walk}
use Rattle.itemline.specs.judge.Brief.{kept_texts, kept_bank, kept_variable, kept_payee, any_payer, brief}

-- a refusal is kept whole
pub brief-no : (x : Counted) (n off : ℕ) → no n off ≡ brief x → no n off ≡ x
unfolding brief
brief-no (got t) n off q = absurd (let z : ◌≡◌ {A = ℕ} 0 1 = cc in omega arith)
brief-no (no m at) n off q = q

brief-keeps : Keeps brief
unfolding brief
brief-keeps = record { refusal = λ n off. refl }

-- amount and warnings are kept of an item's values
value-brief : (payer payee : Account) (amount variable : ℕ) (bank : Bank) (specific : ℕ) (texts : Noted)
    → brief (item_said payer payee amount variable bank specific texts) ≡ kept_bank amount bank specific texts
unfolding item_said kept_bank kept_texts brief on_entry on_item
value-brief payer payee amount variable bank specific texts = refl

payee-brief : (sh : Sheet) (due : ℕ → Bool) (payer : Account) (at : ℕ) (s : List ℕ) → brief (from_payee sh due (item_said payer) at s) ≡ from_payee sh due kept_payee at s
unfolding from_payee from_amount from_variable from_bank spaced tail_of kept_payee kept_variable
payee-brief sh due payer at s =
    spaced-passes brief brief-keeps _ at s _ _ λ payee a1 s1.
    spaced-passes brief brief-keeps _ a1 s1 _ _ λ amount a2 s2.
    spaced-passes brief brief-keeps _ a2 s2 _ _ λ variable a3 s3.
    field-passes brief brief-keeps _ a3 s3 _ _ λ bank a4 s4.
    tail-passes brief brief-keeps sh.text _ _ (λ specific texts. value-brief payer payee amount variable bank specific texts) sh.fixedtail sh.bare a4 s4

walk-brief : (sh : Sheet) (due : ℕ → Bool) (single : Bool) (s : List ℕ)
    → brief (walk sh due single item_said s) ≡ payer_first sh.joined sh.basemin single s (any_payer (from_payee sh due kept_payee))
unfolding walk payer_first spaced any_payer
walk-brief sh due single s =
    pick-passes brief brief-keeps single _ _ _ _
    (spaced-passes brief brief-keeps _ 0 s _ _ λ payer a1 s1. payee-brief sh due payer a1 s1)
    (payee-brief sh due nobody 0 s)

pub line-brief : (sh : Sheet) (due : ℕ → Bool) (single : Bool) (s : List ℕ)
    → brief (counted (read_item sh due single s)) ≡ payer_first sh.joined sh.basemin single s (any_payer (from_payee sh due kept_payee))
line-brief sh due single s = rw (item-walk sh due single s) (walk-brief sh due single s)
