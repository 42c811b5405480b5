-- How long numbers, accounts and lines are. Assumes nothing.
use mathlib.Core.Path.{◌≡◌, sym, ap, ◌∙◌}
use mathlib.Core.Bool.{Bool, true, false}
use mathlib.Core.List.{[], ◌∷◌, ◌++◌}
use Prim.Native.Nat.{ℕ, zero, suc, ◌+◌, ◌/◌, ◌≤◌}
use native.Mathlib.Omega.{arith}
use lib.ListN.{length, length-append}
use borrow.Author.Tests.{lt-ltb, le-ltb}
use Rattle.base.specs.Pick.{pick}
use Rattle.base.proofs.Cases.{by-lt, by-eq, pick_true, pick-false}
use Rattle.numeral.proofs.Fixed.{width_on, decimal-width, fixed-length}
use Rattle.calendar.proofs.Back.{spell-day-length}
use Rattle.account.proofs.Spelled.{spelled-alone, spelled-both}
use Rattle.sheet.specs.declared.Sheet.{Sheet}
use Rattle.paper.specs.Numerals.{decimal, fixed}
use Rattle.paper.specs.Days.{spell_day}
use Rattle.paper.specs.Accounts.{Account, account, is_nobody, spell_account}
use Rattle.paper.specs.Batch.{Header}
use Rattle.paper.specs.FirstLine.{spell_first}
use Rattle.paper.specs.FileLine.{spell_file}
use Rattle.paper.specs.GroupLine.{spell_payer, spell_group}

width-most : (k n : ℕ) → width_on k n ≤ k
unfolding width_on pick
width-most zero n = omega arith
width-most (suc k) n =
    by-lt n 10 (λ lt. simp (lt-ltb n 10 lt) (omega arith)) (λ le. simp (le-ltb n 10 le) (omega (arith, width-most k (n / 10))))

-- a number has at most 20 digits
pub decimal-twenty : (n : ℕ) → length (decimal n) ≤ 20
decimal-twenty n = omega (arith, decimal-width n, width-most 20 n)

-- .. so an account has at most 41 bytes, whatever its numbers are
pub account-most : (p b : ℕ) → length (spell_account (account p b)) ≤ 41
account-most p b =
    by-eq p 0
    (λ e. omega (arith, ap length (spelled-alone p b e), decimal-twenty b))
    (λ n. omega (arith, ap length (spelled-both p b n), length-append (decimal p) (45 ∷ decimal b), decimal-twenty p, decimal-twenty b))

-- first_len
module _ (sh : Sheet) (h : Header) where
  pub first-full : sh.header ≡ true → length h.name ≡ 20 → 58 ≡ length (spell_first sh h)
  unfolding spell_first
  first-full e l =
      sym (ap length (pick_true _ _ e)
      ∙ omega (
        arith,
        spell-day-length h.date,
        fixed-length 10 h.client,
        fixed-length 3 h.from,
        fixed-length 3 h.to,
        fixed-length 12 0,
        length-append (spell_day h.date) (h.name ++ (fixed 10 h.client ++ (fixed 3 h.from ++ (fixed 3 h.to ++ fixed 12 0)))),
        length-append h.name (fixed 10 h.client ++ (fixed 3 h.from ++ (fixed 3 h.to ++ fixed 12 0))),
        length-append (fixed 10 h.client) (fixed 3 h.from ++ (fixed 3 h.to ++ fixed 12 0)),
        length-append (fixed 3 h.from) (fixed 3 h.to ++ fixed 12 0),
        length-append (fixed 3 h.to) (fixed 12 0),
      ))

  pub first_plain : sh.header ≡ false → length h.name ≡ 20 → 4 ≡ length (spell_first sh h)
  unfolding spell_first
  first_plain e l = sym (ap length (pick-false _ _ e))

-- file_len
pub file-long : (sh : Sheet) (kind number : ℕ) → 18 ≡ length (spell_file sh kind number)
unfolding spell_file
file-long sh kind number =
    omega (
      arith,
      fixed-length 4 kind,
      fixed-length 6 number,
      fixed-length 4 sh.bank,
      length-append (fixed 4 kind) (32 ∷ (fixed 6 number ++ (32 ∷ fixed 4 sh.bank))),
      length-append (fixed 6 number) (32 ∷ fixed 4 sh.bank),
    )

-- account_space_len: w is what account_len answered
module _ (p b w : ℕ) (g : w ≡ length (spell_account (account p b))) where
  pub account-low : w + 1 ≤ 42
  account-low = omega (arith, account-most p b)

  pub account-next : w + 1 ≡ length (spell_account (account p b) ++ (32 ∷ []))
  account-next = omega (arith, length-append (spell_account (account p b)) (32 ∷ []))

pub ruleset accounts = (account-low, account-next)

-- payer_len: t is what is_nobody answered
module _ (always : Bool) (a : Account) (t : Bool) (g : t ≡ is_nobody a) where
  pub payer-empty : t ≡ true → always ≡ true → 1 ≡ length (spell_payer always a)
  unfolding spell_payer
  payer-empty e f = sym (ap length (pick_true _ _ (sym g ∙ e) ∙ pick_true _ _ f))

  pub payer-none : t ≡ true → always ≡ false → 0 ≡ length (spell_payer always a)
  unfolding spell_payer
  payer-none e f = sym (ap length (pick_true _ _ (sym g ∙ e) ∙ pick-false _ _ f))

  pub payer-some : t ≡ false → (w : ℕ) → w ≡ length (spell_account a ++ (32 ∷ [])) → w ≡ length (spell_payer always a)
  unfolding spell_payer
  payer-some e w h = h ∙ sym (ap length (pick-false _ _ (sym g ∙ e)))

pub ruleset payers = (payer-empty, payer-none, payer-some)

-- group_front_len
module _ (sh : Sheet) (a : Account) where
  pub group-front : (w : ℕ) → w ≡ length (spell_payer sh.emptypayer a) → (total date : ℕ) → 9 + w + length (decimal total) ≡ length (spell_group sh a total date)
  unfolding spell_group
  group-front w g total date =
      omega (
        arith,
        spell-day-length date,
        length-append (spell_payer sh.emptypayer a) (decimal total ++ (32 ∷ spell_day date)),
        length-append (decimal total) (32 ∷ spell_day date),
      )
