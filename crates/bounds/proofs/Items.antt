-- How long an item's line is at most. Assumes nothing.
use mathlib.Core.Path.{◌≡◌}
use mathlib.Core.Bool.{Bool}
use mathlib.Core.List.{List, [], ◌∷◌, ◌++◌}
use Prim.Native.Nat.{ℕ, ◌≤◌}
use native.Mathlib.Omega.{arith}
use lib.Dec.{eqb}
use lib.ListN.{length, length-append}
use Rattle.base.specs.Pick.{pick}
use Rattle.base.proofs.Cases.{either}
use Rattle.sheet.specs.declared.Sheet.{Sheet}
use Rattle.paper.specs.Numerals.{decimal}
use Rattle.paper.specs.Accounts.{Account, is_nobody, spell_account}
use Rattle.paper.specs.BankField.{spell_bank}
use Rattle.paper.specs.Texts.{spell_text, no_text}
use Rattle.paper.specs.Batch.{Item}
use Rattle.paper.specs.Proper.{Verdict, fine, item_proper}
use Rattle.paper.specs.ItemLine.{spell_tail, spell_item}
use Rattle.paper.proofs.Verdicts.{name-short}
use Rattle.bank.proofs.Spelled.{spell-bank-most}
use Rattle.roundtrip.proofs.linesound.Items.{tested}
use Rattle.spelling.proofs.linelen.Lengths.{decimal-twenty, account-most}
use Rattle.bounds.proofs.Texts.{Short, parts-short, text-most}

-- an item that passes refusal 20 has short texts
pub proper-short : (k : ℕ) (single : Bool) (before : ℕ) (x : Item) (rest : Verdict) → item_proper k single before x rest ≡ fine
    → Short x.parts × (length x.name ≤ 35)
proper-short k single before x rest e =
    let (t, _) = tested k single before x rest e in
    (parts-short x.parts t.parts, name-short x.name t.name)

-- a list of bytes has at most n
abbrev pub Within : ℕ → List ℕ → Type 0
Within n s = length s ≤ n

-- the payer, with the space behind him
pub payer-most : (a : Account) → length (spell_account a ++ (32 ∷ [])) ≤ 42
payer-most a = omega (arith, length-append (spell_account a) (32 ∷ []), account-most a.prefix a.base)

tail-most : (sh : Sheet) (specific : ℕ) (ps : List (List ℕ)) (n : List ℕ) → Short ps → length ps ≡ 4 → length n ≤ 35
    → length (spell_tail sh specific ps n) ≤ 207
unfolding spell_tail
tail-most sh specific ps n s four l =
    let t = text-most sh.text ps n s four l in
    let d = decimal-twenty specific in
    either (Within 207) sh.fixedtail
    (λ _.
    omega (
      arith,
      length-append (pick (eqb specific 0) [] (decimal specific)) (32 ∷ spell_text sh.text ps n),
      either (Within 20) (eqb specific 0) {a = []} {b = decimal specific} (λ _. omega arith) (λ _. d),
      t,
    ))
    (λ _. either (Within 207) (no_text ps n)
    (λ _. either (Within 207) (eqb specific 0) (λ _. omega arith) (λ _. omega (arith, d)))
    (λ _. omega (arith, length-append (decimal specific) (32 ∷ spell_text sh.text ps n), d, t)))

-- whatever its numbers are
pub item-most : (sh : Sheet) (x : Item) → Short x.parts → length x.parts ≡ 4 → length x.name ≤ 35 → length (spell_item sh x) ≤ 343
unfolding spell_item
item-most sh x s four l =
    let payer = pick (is_nobody x.payer) [] (spell_account x.payer ++ (32 ∷ [])) in
    let tail = spell_tail sh x.specific x.parts x.name in
    let bank = spell_bank x.bank x.constant x.priority in
    let amount = decimal x.amount in
    let variable = decimal x.variable in
    omega (
      arith,
      either (Within 42) (is_nobody x.payer) {a = []} {b = spell_account x.payer ++ (32 ∷ [])} (λ _. omega arith) (λ _. payer-most x.payer),
      account-most x.payee.prefix x.payee.base,
      decimal-twenty x.amount,
      decimal-twenty x.variable,
      spell-bank-most x.bank x.constant x.priority,
      tail-most sh x.specific x.parts x.name s four l,
      length-append payer (spell_account x.payee ++ (32 ∷ (amount ++ (32 ∷ (variable ++ (32 ∷ (bank ++ tail))))))),
      length-append (spell_account x.payee) (32 ∷ (amount ++ (32 ∷ (variable ++ (32 ∷ (bank ++ tail)))))),
      length-append amount (32 ∷ (variable ++ (32 ∷ (bank ++ tail)))),
      length-append variable (32 ∷ (bank ++ tail)),
      length-append bank tail,
    )
