-- What the line of a group says fits. Assumes nothing.
use mathlib.Core.Path.{◌≡◌, refl}
use mathlib.Core.Bool.{Bool, true}
use mathlib.Core.Logic.{◌⊎◌, inl, inr}
use Prim.Native.Nat.{ℕ}
use Rattle.base.specs.Pick.{pick}
use Rattle.base.proofs.Cases.{either, pick_true}
use Rattle.sheet.specs.declared.Sheet.{Sheet}
use Rattle.paper.specs.Days.{read_due}
use Rattle.paper.specs.Accounts.{Account, nobody, account_proper, is_nobody, read_payer}
use Rattle.paper.specs.Amounts.{read_total}
use Rattle.paper.specs.Proper.{payer_proper}
use Rattle.paper.proofs.LineSays.{Read, Payer, stands, lacks}
use Rattle.calendar.proofs.Sound.{due-sound}
use Rattle.account.proofs.Sound.{payer-sound}
use Rattle.amount.proofs.Sound.{total-sound}
use Rattle.roundtrip.specs.linesound.Fits.{GroupFits}

payer-in : (a : Account) → (is_nobody a ≡ true) ⊎ (account_proper a ≡ true) → payer_proper a ≡ true
unfolding payer_proper
payer-in a (inl e) = pick_true _ _ e
payer-in a (inr e) = either (λ b. b ≡ true) (is_nobody a) (λ _. refl) (λ _. e)

nobody-in : payer_proper nobody ≡ true
unfolding payer_proper is_nobody pick
nobody-in = refl

module _ (sh : Sheet) where
  payer-fits : {named : Bool} {payer : Account} → Payer (read_payer sh.emptypayer sh.zeropayer sh.joined sh.basemin) named payer → payer_proper payer ≡ true
  payer-fits (stands {a} f) = payer-in a (payer-sound sh.joined sh.basemin f.0 sh.emptypayer sh.zeropayer a f.1)
  payer-fits lacks = nobody-in

  pub group-fits : {today : ℕ} {here named : Bool} {payer : Account} {total date : ℕ}
      → Payer (read_payer sh.emptypayer sh.zeropayer sh.joined sh.basemin) named payer → Read (read_total sh.comma) total
      → Read (read_due sh.longdate here sh.early sh.ahead today) date → GroupFits sh today here payer total date
  group-fits {today} {here} {total = total} {date} p t f =
      let d = due-sound sh.longdate f.0 here sh.early sh.ahead today date f.1 in
      record { payer-proper = payer-fits p; total_low = total-sound sh.comma t.0 total t.1; date_real = d.0; date_allowed = d.1 }
