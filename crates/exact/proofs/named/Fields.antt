-- A field is read, or refused with a line's own number: one law for each field. Assumes nothing.
use mathlib.Core.Path.{◌≡◌}
use mathlib.Core.Bool.{Bool, true, false}
use mathlib.Core.List.{List, [], ◌∷◌}
use Prim.Native.Nat.{ℕ, ◌+◌, ◌*◌, ◌-◌}
use native.Mathlib.Omega.{arith}
use lib.Dec.{eqb, leb}
use Rattle.base.specs.Pick.{pick}
use Rattle.base.proofs.Cases.{either}
use Rattle.base.proofs.Seek.{never}
use Rattle.sheet.specs.declared.Sheet.{Sheet}
use Rattle.sheet.specs.declared.Style.{Style}
use Rattle.paper.specs.Read.{Field, value, fault, given}
use Rattle.paper.specs.Numerals.{digits_on, digits}
use Rattle.paper.specs.Days.{real, short_day, long_day, read_day, read_due}
use Rattle.paper.specs.Accounts.{ruled, two_parts, one_part, read_account, read_payer}
use Rattle.paper.specs.Amounts.{with_comma, read_amount, read_total, read_item_amount}
use Rattle.paper.specs.BankField.{ninth, read_bank, read_due_bank}
use Rattle.paper.specs.Texts.{Piece, fitted, finish, message, marked, read_text}
use Rattle.paper.specs.Batch.{Header}
use Rattle.paper.specs.FirstLine.{text_field, read_to, read_rest}
use Rattle.paper.specs.FileLine.{member, series, number_fault, read_kind, read_number, read_code}
use Rattle.paper.specs.ItemLine.{read_symbol_or_none}
use Rattle.paper.specs.Spells.{Numbers, any_number, after, number_test}
use Rattle.exact.specs.named.Numbers.{Own}

-- ---- each number that a line gives of its own

pub own4 : Own 4
own4 = (omega arith, omega arith, λ e. omega arith)

own5 : Own 5
own5 = (omega arith, omega arith, λ e. omega arith)

own6 : Own 6
own6 = (omega arith, omega arith, λ e. omega arith)

own7 : Own 7
own7 = (omega arith, omega arith, λ e. omega arith)

own8 : Own 8
own8 = (omega arith, omega arith, λ e. omega arith)

own9 : Own 9
own9 = (omega arith, omega arith, λ e. omega arith)

own11 : Own 11
own11 = (omega arith, omega arith, λ e. omega arith)

own12 : Own 12
own12 = (omega arith, omega arith, λ e. omega arith)

own13 : Own 13
own13 = (omega arith, omega arith, λ e. omega arith)

own14 : Own 14
own14 = (omega arith, omega arith, λ e. omega arith)

-- ---- a field

module _ {A : Type 0} where
  pub data Numbered : Field A → Type 0 where
    is-value : {v : A} → Numbered (value v)
    is_fault : {n : ℕ} → Own n → Numbered (fault n)

  own-fault : {n : ℕ} → Numbered (fault n) → Own n
  own-fault (is_fault o) = o

  -- the number of a field that is refused
  pub own-number : {x : Field A} {n : ℕ} → Numbered x → x ≡ fault n → Own n
  own-number h e = own-fault (rw e at h)

  -- a value, or the refusal n, by a test
  tested : (t : Bool) (v : A) (n : ℕ) → Own n → Numbered (pick t (value v) (fault n))
  tested t v n o = either Numbered t (λ _. is-value) (λ _. is_fault o)

given-on : {A B : Type 0} {x : Field A} {k : A → Field B} → Numbered x → ((v : A) → Numbered (k v)) → Numbered (given x k)
unfolding given
given-on (is-value {v = v}) p = p v
given-on (is_fault o) p = is_fault o

-- ---- 4: digits

digits-on : (v : ℕ) (s : List ℕ) → Numbered (digits_on v s)
unfolding digits_on
digits-on v [] = is-value
digits-on v (x ∷ s) = either Numbered _ (λ _. digits-on (v * 10 + (x - 48)) s) (λ _. is_fault own4)

pub digits-named : (least most : ℕ) (s : List ℕ) → Numbered (digits least most s)
unfolding digits
digits-named least most s = either Numbered _ (λ _. is_fault own4) (λ _. either Numbered _ (λ _. is_fault own4) (λ _. digits-on 0 s))

pub symbol-named : (s : List ℕ) → Numbered (read_symbol_or_none s)
unfolding read_symbol_or_none
symbol-named s = either Numbered _ (λ _. is-value) (λ _. digits-named 1 10 s)

-- ---- 5: accounts

ruled-named : (p b : ℕ) → Numbered (ruled p b)
unfolding ruled
ruled-named p b = tested _ _ 5 own5

two-named : (least : ℕ) (p b : List ℕ) → Numbered (two_parts least p b)
unfolding two_parts
two-named least p b = given-on (digits-named 1 6 p) λ prefix. given-on (digits-named least 10 b) λ base. ruled-named prefix base

one-named : (least : ℕ) (b : List ℕ) → Numbered (one_part least b)
unfolding one_part
one-named least b = given-on (digits-named least 10 b) λ base. ruled-named 0 base

pub account-named : (joined : Bool) (least : ℕ) (s : List ℕ) → Numbered (read_account joined least s)
unfolding read_account
account-named joined least s =
    either Numbered _ (λ _. two-named least _ _) (λ _. either Numbered _ (λ _. two-named 10 _ _) (λ _. one-named least s))

pub payer-named : (empty allzero joined : Bool) (least : ℕ) (s : List ℕ) → Numbered (read_payer empty allzero joined least s)
unfolding read_payer
payer-named empty allzero joined least s =
    either Numbered _ (λ _. is-value) (λ _. either Numbered _ (λ _. is-value) (λ _. account-named joined least s))

-- ---- 6: amounts

comma-named : (s : List ℕ) → Numbered (with_comma s)
unfolding with_comma
comma-named s = given-on (digits-named 1 11 _) λ crowns. given-on (digits-named 2 2 _) λ rest. is-value

amount-named : (may : Bool) (most : ℕ) (s : List ℕ) → Numbered (read_amount may most s)
unfolding read_amount
amount-named may most s = either Numbered _ (λ _. comma-named s) (λ _. digits-named 1 most s)

pub total-named : (may : Bool) (s : List ℕ) → Numbered (read_total may s)
unfolding read_total
total-named may s = amount-named may 14 s

pub item-amount-named : (may : Bool) (most max : ℕ) (s : List ℕ) → Numbered (read_item_amount may most max s)
unfolding read_item_amount
item-amount-named may most max s = given-on (amount-named may most s) λ v. tested _ v 6 own6

-- ---- 7, 9 and 8: an account file's kind and number, and the bank

pub kind-named : (sh : Sheet) (s : List ℕ) → Numbered (read_kind sh s)
unfolding read_kind
kind-named sh s = given-on (digits-named 4 4 s) λ k. tested _ k 7 own7

-- a test of numbers refuses with a line's own number
abbrev pub Tests : (ℕ → ℕ) → Type 0
Tests test = (n : ℕ) → eqb (test n) 0 ≡ false → Own (test n)

pub number-named : {test : ℕ → ℕ} → Tests test → (s : List ℕ) → Numbered (read_number test s)
unfolding read_number
number-named {test} g s = given-on (digits-named 6 6 s) λ n. either Numbered _ (λ _. is-value) (λ e. is_fault (g n e))

-- it gives 9, or allows the number
nine : (t : Bool) (a : ℕ) → (eqb a 0 ≡ false → Own a) → eqb (pick t a 9) 0 ≡ false → Own (pick t a 9)
unfolding pick
nine true a h e = h e
nine false a h e = own9

used : (t : Bool) → eqb (pick t 9 0) 0 ≡ false → Own (pick t 9 0)
unfolding pick
used true e = own9
used false e = never e

fault-tests : (interval : Bool) (h : Header) (seen : List ℕ) → Tests (number_fault interval h seen)
unfolding number_fault pick
fault-tests true h seen n e =
    nine (leb h.from (series n)) _ (nine (leb (series n) h.to) _ (used (member (series n) seen))) e
fault-tests false h seen n e = never e

pub number-tests : (sh : Sheet) (a : Numbers) → Tests (number_test sh a)
unfolding number_test
number-tests sh any_number n e = never e
number-tests sh (after h seen) n e = fault-tests sh.interval h seen n e

pub code-named : (sh : Sheet) (s : List ℕ) → Numbered (read_code sh s)
unfolding read_code
code-named sh s = given-on (digits-named 4 4 s) λ b. tested _ b 8 own8

-- ---- 4 and 9: the first line's texts and interval

pub text-field-named : (s : List ℕ) → Numbered (text_field s)
unfolding text_field
text-field-named s = tested _ s 4 own4

pub to_named : (ordered : Bool) (from : ℕ) (s : List ℕ) → Numbered (read_to ordered from s)
unfolding read_to
to_named ordered from s = given-on (digits-named 3 3 s) λ to. either Numbered _ (λ _. is_fault own9) (λ _. is-value)

pub rest-named : (short : Bool) (s : List ℕ) → Numbered (read_rest short s)
unfolding read_rest
rest-named short s = either Numbered _ (λ _. text-field-named s) (λ _. is_fault own4)

-- ---- 11: days

real-named : (d : ℕ) → Numbered (real d)
unfolding real
real-named d = tested _ d 11 own11

pub short-named : (s : List ℕ) → Numbered (short_day s)
unfolding short_day
short-named s = given-on (digits-named 6 6 s) λ n. real-named _

long-named : (s : List ℕ) → Numbered (long_day s)
unfolding long_day
long-named s = given-on (digits-named 8 8 s) real-named

day-named : (long : Bool) (s : List ℕ) → Numbered (read_day long s)
unfolding read_day
day-named long s = either Numbered _ (λ _. long-named s) (λ _. short-named s)

pub due-named : (long here early : Bool) (ahead today : ℕ) (s : List ℕ) → Numbered (read_due long here early ahead today s)
unfolding read_due
due-named long here early ahead today s = given-on (day-named long s) λ d. tested _ d 11 own11

-- ---- 12 and 13, and then 11: the bank field

ninth-named : (ranked : Bool) (d b c : ℕ) → Numbered (ninth ranked d b c)
unfolding ninth
ninth-named true d b c = is-value
ninth-named false d b c = tested _ _ 13 own13

bank-named : (ranked : Bool) (s : List ℕ) → Numbered (read_bank ranked s)
unfolding read_bank
bank-named ranked s =
    given-on (digits-named 8 10 s) λ n.
    either Numbered _ (λ _. is_fault own12) (λ _. either Numbered _ (λ _. is_fault own13) (λ _. ninth-named ranked _ _ _))

pub due-bank-named : (ranked : Bool) (due : ℕ → Bool) (s : List ℕ) → Numbered (read_due_bank ranked due s)
unfolding read_due_bank
due-bank-named ranked due s = given-on (bank-named ranked s) λ b. tested _ b 11 own11

-- ---- 14: texts

module _ (y : Style) where
  finish-named : (ps : List Piece) (n : Piece) → Numbered (finish y ps n)
  unfolding finish fitted
  finish-named ps n = either Numbered _ (λ _. either Numbered _ (λ _. is_fault own14) (λ _. tested _ _ 14 own14)) (λ _. is_fault own14)

  message-named : (at : ℕ) (m : List ℕ) → Numbered (message y at m)
  unfolding message
  message-named at m = finish-named _ _

  marked-named : (at : ℕ) (t : List ℕ) → Numbered (marked y at t)
  unfolding marked
  marked-named at t =
      either Numbered _ (λ _. finish-named _ _)
      (λ _. either Numbered _ (λ _. message-named _ _) (λ _. either Numbered _ (λ _. message-named at t) (λ _. is_fault own14)))

  pub text-named : (at : ℕ) (t : List ℕ) → Numbered (read_text y at t)
  unfolding read_text
  text-named at t =
      either Numbered _
      (λ _. either Numbered _ (λ _. either Numbered _ (λ _. marked-named at t) (λ _. is_fault own4)) (λ _. message-named at t))
      (λ _. is_fault own4)
