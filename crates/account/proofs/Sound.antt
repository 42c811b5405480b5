-- What is read as an account is proper, and what is not is refused with 4 or 5; a payer is such an account or nobody. Assumes nothing.
use mathlib.Core.Path.{◌≡◌, refl}
use mathlib.Core.Bool.{Bool, true, false}
use mathlib.Core.Logic.{◌⊎◌, inl, inr}
use mathlib.Core.List.{List}
use Prim.Native.Nat.{ℕ, ◌+◌, ◌-◌, ◌^◌, ◌<◌}
use native.Mathlib.Omega.{arith}
use lib.Dec.{ltb}
use lib.ListN.{length, take, drop}
use Rattle.base.specs.Pick.{pick}
use Rattle.base.specs.Seek.{seek, before}
use Rattle.base.proofs.Cases.{by-test, either}
use Rattle.numeral.proofs.given.Says.{Says, of_value, of_fault, says, says-value, says-fault, says-given}
use Rattle.numeral.proofs.Sound.{digits-sound, digits-fault}
use Rattle.paper.specs.Read.{value, fault}
use Rattle.paper.specs.Bytes.{dash, null}
use Rattle.paper.specs.Numerals.{digits}
use Rattle.paper.specs.Accounts.{Account, account, nobody, account_ok, ruled, two_parts, one_part, read_account, account_proper, is_nobody, only_zeros, read_payer}
use Rattle.account.specs.Parts.{with_base}
use Rattle.account.proofs.Proper.{ruled-ok, ruled-broken, proper}

abbrev Proper : Account → Type 0
Proper a = account_proper a ≡ true

abbrev Payer : Account → Type 0
Payer a = (is_nobody a ≡ true) ⊎ (account_proper a ≡ true)

abbrev Refusal : ℕ → Type 0
Refusal n = (n ≡ 4) ⊎ (n ≡ 5)

number-says : (least most : ℕ) (s : List ℕ) → Says (λ n. n < 10 ^ most) Refusal (digits least most s)
number-says least most s = says _ Refusal (digits least most s) (λ v e. digits-sound least most s v e) (λ n e. inl (digits-fault least most s n e))

ruled-says : (p b : ℕ) → p < 1000000 → b < 10000000000 → Says Proper Refusal (ruled p b)
ruled-says p b h k =
    by-test (account_ok p b)
    (λ e. rw (ruled-ok p b e) (of_value Proper Refusal (account p b) (proper p b h k e)))
    (λ e. rw (ruled-broken p b e) (of_fault Proper Refusal 5 (inr refl)))

base-says : (least p : ℕ) (s : List ℕ) → p < 1000000 → Says Proper Refusal (with_base least p s)
unfolding with_base
base-says least p s h =
    says-given (λ n. n < 10 ^ 10) Proper Refusal (digits least 10 s) (λ base. ruled p base) (number-says least 10 s) (λ b k. ruled-says p b h k)

parts-say : (least : ℕ) (p b : List ℕ) → Says Proper Refusal (two_parts least p b)
unfolding two_parts with_base
parts-say least p b =
    says-given (λ n. n < 10 ^ 6) Proper Refusal (digits 1 6 p) (λ prefix. with_base least prefix b) (number-says 1 6 p) (λ q k. base-says least q b k)

account-says : (joined : Bool) (least : ℕ) (s : List ℕ) → Says Proper Refusal (read_account joined least s)
unfolding read_account one_part with_base
account-says joined least s =
    either (Says Proper Refusal) (ltb (seek dash s) (length s))
    (λ e. parts-say least (before dash s) (drop (seek dash s + 1) s))
    (λ e. either (Says Proper Refusal) (pick joined (ltb 10 (length s)) false)
    (λ f. parts-say 10 (take (length s - 10) s) (drop (length s - 10) s))
    (λ f. base-says least 0 s (omega arith)))

nobody-self : is_nobody nobody ≡ true
unfolding is_nobody pick
nobody-self = refl

module _ (joined : Bool) (least : ℕ) (s : List ℕ) where
  pub account-sound : (a : Account) → read_account joined least s ≡ value a → account_proper a ≡ true
  account-sound a e = says-value Proper Refusal (read_account joined least s) (account-says joined least s) a e

  pub account-fault : (n : ℕ) → read_account joined least s ≡ fault n → (n ≡ 4) ⊎ (n ≡ 5)
  account-fault n e = says-fault Proper Refusal (read_account joined least s) (account-says joined least s) n e

  module _ (empty allzero : Bool) where
    payer-says : Says Payer Refusal (read_payer empty allzero joined least s)
    unfolding read_payer
    payer-says =
        either (Says Payer Refusal) (pick empty (null s) false)
        (λ e. of_value Payer Refusal nobody (inl nobody-self))
        (λ e. either (Says Payer Refusal) (pick allzero (only_zeros s) false)
        (λ f. of_value Payer Refusal nobody (inl nobody-self))
        (λ f. says Payer Refusal (read_account joined least s) (λ a g. inr (account-sound a g)) (λ n g. account-fault n g)))

    pub payer-sound : (a : Account) → read_payer empty allzero joined least s ≡ value a → (is_nobody a ≡ true) ⊎ (account_proper a ≡ true)
    payer-sound a e = says-value Payer Refusal (read_payer empty allzero joined least s) payer-says a e
