-- An item's line. Document 01, "Lines", item and tail. Assumes nothing.
use Rattle.std.specs.Prelude.{ℕ, ◌+◌, Bool, true, false, List, [], ◌∷◌, ◌++◌, map, eqb}
use Rattle.base.specs.Pick.{pick}
use Rattle.sheet.specs.declared.Sheet.{Sheet}
use Rattle.sheet.specs.declared.Style.{Style}
use Rattle.paper.specs.Read.{Field, value, fault}
use Rattle.paper.specs.Warnings.{low_priority, notices}
use Rattle.paper.specs.Bytes.{field_of, null}
use Rattle.paper.specs.Numerals.{digits, decimal}
use Rattle.paper.specs.Accounts.{Account, nobody, is_nobody, read_account, spell_account}
use Rattle.paper.specs.Amounts.{read_item_amount}
use Rattle.paper.specs.BankField.{Bank, read_due_bank, spell_bank}
use Rattle.paper.specs.Texts.{Piece, piece, Texts, Noted, read_text, spell_text, no_text}
use Rattle.paper.specs.Batch.{Item}
use Rattle.paper.specs.Entries.{item, Places, Said, Listed, said, field, gap, to_end}

-- ---- the tail: the specific symbol and the texts, which the rest of the reading (k) takes

-- no message and no name
abbrev pub no_texts : Noted
no_texts = record { parts = piece 0 [] ∷ piece 0 [] ∷ piece 0 [] ∷ piece 0 [] ∷ []; name = piece 0 []; warnings = [] }

-- 1 to 10 digits
abbrev pub read_symbol : List ℕ → Field ℕ
read_symbol s = digits 1 10 s

-- 0 to 10 digits; a missing symbol is 0
unfoldable pub read_symbol_or_none : List ℕ → Field ℕ
read_symbol_or_none s = pick (null s) (value 0) (read_symbol s)

-- was a value read?
unfoldable pub is_value : {A : Type 0} → Field A → Bool
is_value (value v) = true
is_value (fault n) = false

module _ {A : Type 0} (y : Style) (k : ℕ → Noted → Said A) where
  -- S: a space, a symbol or none, a space, and a text that may be empty
  unfoldable pub fixed_tail : ℕ → List ℕ → Said A
  fixed_tail at s =
      gap at s λ a1 s1.
      field read_symbol_or_none a1 s1 λ specific a2 s2.
      gap a2 s2 λ a3 s3.
      to_end (read_text y a3) a3 s3 λ texts.
      k specific texts

  -- behind a symbol: nothing, or a space and a text
  unfoldable pub after_symbol : ℕ → ℕ → List ℕ → Said A
  after_symbol specific at [] = k specific no_texts
  after_symbol specific at (x ∷ s) = to_end (read_text y (at + 1)) (at + 1) s λ texts. k specific texts

  -- K, C, E and P: nothing, or a space and a symbol, or these, a space and a text; on C (`bare`) also a space and a text, where what
  -- follows the space is no symbol
  unfoldable pub open_tail : Bool → ℕ → List ℕ → Said A
  open_tail bare at [] = k 0 no_texts
  open_tail bare at (x ∷ s) =
      pick (pick bare (pick (is_value (read_symbol (field_of s))) false true) false)
      (to_end (read_text y (at + 1)) (at + 1) s λ texts. k 0 texts)
      (field read_symbol (at + 1) s λ specific a1 s1. after_symbol specific a1 s1)

-- "Lines", tail: one of the two forms, as the sheet has it
unfoldable pub tail : {A : Type 0} → Sheet → ℕ → List ℕ → (ℕ → Noted → Said A) → Said A
tail sh at s k = pick sh.fixedtail (fixed_tail sh.text k at s) (open_tail sh.text k sh.bare at s)

-- ---- the whole line

-- the bytes of the four parts
abbrev pub part_bytes : {W : Type 0} → Texts W → List (List ℕ)
part_bytes t = map (λ (p : Piece). p.bytes) t.parts

-- where the four parts and the name begin
abbrev pub places : {W : Type 0} → Texts W → Places
places t = record { total = 0; parts = map (λ (p : Piece). p.place) t.parts; name = t.name.place }

-- an item of the fields that were read
abbrev pub item_of : {W : Type 0} → Account → Account → ℕ → ℕ → ℕ → Bank → Texts W → Item
item_of payer payee amount variable specific bank texts =
    record {
      payer = payer;
      payee = payee;
      bank = bank.bank;
      amount = amount;
      variable = variable;
      specific = specific;
      constant = bank.constant;
      priority = bank.priority;
      parts = part_bytes texts;
      name = texts.name.bytes;
    }

-- payee, amount, variable symbol, bank field, tail; the bank field's warning stands before those of the texts. `due` says which payee banks may
-- be due on the group's day.
unfoldable pub from_payee : Sheet → (ℕ → Bool) → Account → ℕ → List ℕ → Listed
from_payee sh due payer at s =
    field (read_account sh.joined sh.basemin) at s λ payee a1 s1.
    gap a1 s1 λ a2 s2.
    field (read_item_amount sh.comma sh.itemdigits sh.itemmax) a2 s2 λ amount a3 s3.
    gap a3 s3 λ a4 s4.
    field read_symbol a4 s4 λ variable a5 s5.
    gap a5 s5 λ a6 s6.
    field (read_due_bank sh.priority due) a6 s6 λ bank a7 s7.
    tail sh a7 s7 λ specific texts.
    said (item (item_of payer payee amount variable specific bank texts)) (notices low_priority a6 bank.warnings ++ texts.warnings) (places texts)

-- the payer's account comes first where the group is single
unfoldable pub read_item : Sheet → (ℕ → Bool) → Bool → List ℕ → Listed
read_item sh due single s =
    pick single
    (field (read_account sh.joined sh.basemin) 0 s λ payer a1 s1.
    gap a1 s1 λ a2 s2.
    from_payee sh due payer a2 s2)
    (from_payee sh due nobody 0 s)

-- ---- "Canonical spelling"

-- S: both spaces always, the symbol empty if 0. Elsewhere nothing if symbol and texts are empty; the symbol, if text follows or it is not 0.
unfoldable pub spell_tail : Sheet → ℕ → List (List ℕ) → List ℕ → List ℕ
spell_tail sh specific parts name =
    pick sh.fixedtail
    (32 ∷ (pick (eqb specific 0) [] (decimal specific) ++ (32 ∷ spell_text sh.text parts name)))
    (pick (no_text parts name)
    (pick (eqb specific 0) [] (32 ∷ decimal specific))
    (32 ∷ (decimal specific ++ (32 ∷ spell_text sh.text parts name))))

-- "Canonical spelling": the payer if there is one, payee, amount, variable symbol, bank field, tail
unfoldable pub spell_item : Sheet → Item → List ℕ
spell_item sh x =
    pick (is_nobody x.payer) [] (spell_account x.payer ++ (32 ∷ []))
    ++ (spell_account x.payee ++ (32 ∷ (decimal x.amount ++ (32 ∷ (decimal x.variable ++ (32 ∷ (spell_bank x.bank x.constant x.priority
    ++ spell_tail sh x.specific x.parts x.name)))))))
