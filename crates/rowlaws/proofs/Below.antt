-- Bounds of what the fields of a line give. Assumes nothing.
use mathlib.Core.Path.{◌≡◌}
use mathlib.Core.Bool.{Bool, true}
use mathlib.Core.List.{List}
use mathlib.Core.Logic.{◌⊎◌, inl, inr}
use Prim.Native.Nat.{ℕ, ◌<◌}
use native.Mathlib.Omega.{arith}
use Rattle.sheet.specs.declared.Sheet.{Sheet}
use Rattle.sheet.specs.Sheets.{kind_allowed}
use Rattle.paper.specs.Read.{value}
use Rattle.paper.specs.Days.{read_due}
use Rattle.paper.specs.Accounts.{Account, nobody, read_account, read_payer, account_proper, is_nobody}
use Rattle.paper.specs.BankField.{Bank, read_due_bank}
use Rattle.paper.specs.FileLine.{read_kind, read_number}
use Rattle.numeral.proofs.given.Sound.{tested, number-tested}
use Rattle.calendar.proofs.Real.{parts}
use Rattle.calendar.proofs.Sound.{due-sound}
use Rattle.account.proofs.Proper.{proper-prefix, proper-base, nobody-is}
use Rattle.account.proofs.Sound.{account-sound, payer-sound}
use Rattle.bank.proofs.Range.{bank-most, priority-most}
use Rattle.bank.proofs.Sound.{bank-sound}
use Rattle.bank.proofs.Due.{due-bank}

pub record Short (a : Account) : Type 0 where
  pub prefix_is : a.prefix < 1000000
  pub base_is : a.base < 10000000000

pub nobody-short : Short nobody
nobody-short = record { prefix_is = omega arith; base_is = omega arith }

proper-short : (a : Account) → account_proper a ≡ true → Short a
proper-short a h = record { prefix_is = proper-prefix a h; base_is = proper-base a h }

payer-or-nobody : (a : Account) → (is_nobody a ≡ true) ⊎ (account_proper a ≡ true) → Short a
payer-or-nobody a (inl e) = rw (nobody-is a e) nobody-short
payer-or-nobody a (inr e) = proper-short a e

pub record Banked (x : Bank) : Type 0 where
  pub bank_is : x.bank < 10000
  pub constant_is : x.constant < 10000
  pub priority_is : x.priority < 100

module _ (s : List ℕ) where
  pub kind-below : (sh : Sheet) (v : ℕ) → read_kind sh s ≡ value v → v < 10000
  unfolding read_kind
  kind-below sh v e = (tested 4 4 7 (kind_allowed sh) s v e).0

  pub number-below : (test : ℕ → ℕ) (v : ℕ) → read_number test s ≡ value v → v < 1000000
  number-below test v e = (number-tested test s v e).0

  pub due_below : (long here early : Bool) (ahead today v : ℕ) → read_due long here early ahead today s ≡ value v → v < 100000000
  due_below long here early ahead today v e = let p = parts v (due-sound long s here early ahead today v e).0 in omega (arith, p.to)

  pub account-short : (joined : Bool) (least : ℕ) (a : Account) → read_account joined least s ≡ value a → Short a
  account-short joined least a e = proper-short a (account-sound joined least s a e)

  pub payer-short : (empty allzero joined : Bool) (least : ℕ) (a : Account) → read_payer empty allzero joined least s ≡ value a → Short a
  payer-short empty allzero joined least a e = payer-or-nobody a (payer-sound joined least s empty allzero a e)

  pub bank-below : (ranked : Bool) (due : ℕ → Bool) (x : Bank) → read_due_bank ranked due s ≡ value x → Banked x
  bank-below ranked due x e =
      let p = bank-sound ranked s x (due-bank due ranked s x e).0 in
      record { bank_is = omega (arith, bank-most x.bank p.bank_is); constant_is = p.constant_is; priority_is = omega (arith, priority-most x.priority p.priority_is) }
