-- How long the parts of an item's line are. Assumes nothing.
use mathlib.Core.Path.{◌≡◌, sym, ap, ◌∙◌}
use mathlib.Core.Bool.{Bool, true, false}
use mathlib.Core.List.{List, [], ◌∷◌, ◌++◌}
use Prim.Native.Nat.{ℕ, ◌+◌, ◌≤◌}
use native.Mathlib.Omega.{arith}
use lib.Dec.{eqb}
use lib.ListN.{length, length-append}
use borrow.Author.Tests.{eq-eqb, ne_eqb}
use Rattle.base.specs.Pick.{pick}
use Rattle.base.proofs.Cases.{pick_true, pick-false}
use Rattle.bank.proofs.Spelled.{spell-bank-most}
use Rattle.sheet.specs.declared.Sheet.{Sheet}
use Rattle.paper.specs.Accounts.{account, spell_account}
use Rattle.paper.specs.Numerals.{decimal}
use Rattle.paper.specs.BankField.{spell_bank}
use Rattle.paper.specs.GroupLine.{spell_payer}
use Rattle.paper.specs.Texts.{spell_text, no_text}
use Rattle.paper.specs.ItemLine.{spell_tail}
use Rattle.rows.specs.declared.read.ItemRow.{ItemRow}
use Rattle.spelling.specs.itemlen.Front.{front}
use Rattle.spelling.proofs.itemlen.Tails.{fixed-is, lone_is, open_is}

-- front_len: what its callees answered, from left to right
pub front_long : (x : ItemRow) (i j k l m : ℕ)
    → i ≡ length (spell_payer false (account x.payerprefix x.payerbase))
    → j ≡ length (spell_account (account x.payeeprefix x.payeebase) ++ (32 ∷ []))
    → k ≡ length (decimal x.amount)
    → l ≡ length (decimal x.variable)
    → ((b c : ℕ) → m ≡ length (spell_bank b c x.priority))
    → i + j + (k + 1) + (l + 1) + m ≡ length (front x)
unfolding front
front_long x i j k l m e f g h n =
    let payer = spell_payer false (account x.payerprefix x.payerbase) in
    let payee = spell_account (account x.payeeprefix x.payeebase) ++ (32 ∷ []) in
    let amount = decimal x.amount in
    let variable = decimal x.variable in
    let bank = spell_bank x.bank x.constant x.priority in
    omega (
      arith,
      n x.bank x.constant,
      length-append payer (payee ++ ((amount ++ (32 ∷ [])) ++ ((variable ++ (32 ∷ [])) ++ bank))),
      length-append payee ((amount ++ (32 ∷ [])) ++ ((variable ++ (32 ∷ [])) ++ bank)),
      length-append (amount ++ (32 ∷ [])) ((variable ++ (32 ∷ [])) ++ bank),
      length-append amount (32 ∷ []),
      length-append (variable ++ (32 ∷ [])) bank,
      length-append variable (32 ∷ []),
    )

-- .. the last of them at most 10
pub bank_low : (p m : ℕ) → ((b c : ℕ) → m ≡ length (spell_bank b c p)) → m ≤ 10
bank_low p m h = omega (arith, h 0 0, spell-bank-most 0 0 p)

-- symbol_len
module _ (hidden : Bool) (n : ℕ) where
  pub hidden-long : hidden ≡ true → 2 ≡ length (32 ∷ (pick hidden [] (decimal n) ++ (32 ∷ [])))
  hidden-long e = omega (arith, length-append (pick hidden [] (decimal n)) (32 ∷ []), ap length (pick_true [] (decimal n) e))

  pub shown-long : hidden ≡ false → (w : ℕ) → w ≡ length (decimal n) → 2 + w ≡ length (32 ∷ (pick hidden [] (decimal n) ++ (32 ∷ [])))
  shown-long e w g = omega (arith, length-append (pick hidden [] (decimal n)) (32 ∷ []), ap length (pick-false [] (decimal n) e))

-- lone_len
module _ (n : ℕ) where
  pub lone-none : n ≡ 0 → 0 ≡ length (pick (eqb n 0) [] (32 ∷ decimal n))
  lone-none e = sym (ap length (pick_true [] (32 ∷ decimal n) (eq-eqb n 0 e)))

  pub lone-some : (n ≡ 0 → ⊥) → (w : ℕ) → w ≡ length (decimal n) → 1 + w ≡ length (pick (eqb n 0) [] (32 ∷ decimal n))
  lone-some e w g = omega (arith, ap length (pick-false [] (32 ∷ decimal n) (ne_eqb n 0 e)))

pub ruleset symbols = (hidden-long, shown-long, lone-none, lone-some)

-- tail_len: t is what no-text answered, i the symbol's and j the text's length
module _ (sh : Sheet) (specific : ℕ) (ps : List (List ℕ)) (n : List ℕ) where
  pub fixed-long : sh.fixedtail ≡ true → (i j : ℕ) → i ≡ length (32 ∷ (pick (eqb specific 0) [] (decimal specific) ++ (32 ∷ [])))
      → j ≡ length (spell_text sh.text ps n) → i + j ≡ length (spell_tail sh specific ps n)
  fixed-long e i j g h =
      let symbol : List ℕ = 32 ∷ (pick (eqb specific 0) [] (decimal specific) ++ (32 ∷ [])) in
      sym (ap length (fixed-is sh specific ps n e) ∙ length-append symbol (spell_text sh.text ps n) ∙ omega arith)

  module _ (e : sh.fixedtail ≡ false) (t : Bool) (f : t ≡ no_text ps n) where
    pub lone-long : t ≡ true → (i : ℕ) → i ≡ length (pick (eqb specific 0) [] (32 ∷ decimal specific)) → i ≡ length (spell_tail sh specific ps n)
    lone-long u i g = g ∙ sym (ap length (lone_is sh specific ps n e t f u))

    pub open-long : t ≡ false → (i j : ℕ) → i ≡ length (32 ∷ (pick false [] (decimal specific) ++ (32 ∷ [])))
        → j ≡ length (spell_text sh.text ps n) → i + j ≡ length (spell_tail sh specific ps n)
    open-long u i j g h =
        let symbol : List ℕ = 32 ∷ (pick false [] (decimal specific) ++ (32 ∷ [])) in
        sym (ap length (open_is sh specific ps n e t f u) ∙ length-append symbol (spell_text sh.text ps n) ∙ omega arith)

pub ruleset tails = (fixed-long, lone-long, open-long)
