-- The front of an item's line by its parts: room for each, and the front where they are written. Assumes nothing.
use mathlib.Core.Path.{◌≡◌}
use mathlib.Core.Bool.{false}
use mathlib.Core.List.{List, [], ◌∷◌, ◌++◌, append_assoc}
use Prim.Native.Nat.{ℕ, ◌+◌, ◌≤◌}
use lib.ListN.{length}
use Rattle.base.specs.Put.{Wrote}
use Rattle.base.proofs.Put.{◌then◌}
use Rattle.paper.specs.Accounts.{account, spell_account}
use Rattle.paper.specs.Numerals.{decimal}
use Rattle.paper.specs.BankField.{spell_bank}
use Rattle.paper.specs.GroupLine.{spell_payer}
use Rattle.rows.specs.declared.read.ItemRow.{ItemRow}
use Rattle.spelling.specs.itemlen.Front.{front}
use Rattle.spelling.proofs.putlines.Chain.{whole, part, rest, wrote_as}

module _ (x : ItemRow) (o : List ℕ) (at : ℕ) where
  abbrev payer : List ℕ
  payer = spell_payer false (account x.payerprefix x.payerbase)

  abbrev payee : List ℕ
  payee = spell_account (account x.payeeprefix x.payeebase) ++ (32 ∷ [])

  abbrev two : List ℕ
  two = (decimal x.amount ++ (32 ∷ [])) ++ (decimal x.variable ++ (32 ∷ []))

  abbrev bank : List ℕ
  bank = spell_bank x.bank x.constant x.priority

  front-is : front x ≡ payer ++ (payee ++ (two ++ bank))
  unfolding front
  front-is = simp append_assoc

  module _ (h : at + length (front x) ≤ length o) where
    pub front-payer : at + length payer ≤ length o
    front-payer = (part {o = o} payer _ (whole front-is h)).room

    module _ (o1 : List ℕ) (p : ℕ) (w : Wrote o at payer o1 p) where
      pub front-payee : p + length payee ≤ length o1
      front-payee = (part payee _ (rest w (whole front-is h))).room

      module _ (o2 : List ℕ) (q : ℕ) (v : Wrote o1 p payee o2 q) where
        pub front-two : q + length two ≤ length o2
        front-two = (part two _ (rest v (rest w (whole front-is h)))).room

        pub front-bank : (o3 : List ℕ) (r : ℕ) → Wrote o2 q two o3 r → r + length bank ≤ length o3
        front-bank o3 r u = (rest u (rest v (rest w (whole front-is h)))).room

  pub then-front : {o1 o2 o3 o4 : List ℕ} {p q r n : ℕ} → Wrote o at payer o1 p → Wrote o1 p payee o2 q → Wrote o2 q two o3 r → Wrote o3 r bank o4 n → Wrote o at (front x) o4 n
  then-front w v u t = wrote_as front-is (w then v then u then t)

pub ruleset fronts = (front-payer, front-payee, front-two, front-bank, then-front)
