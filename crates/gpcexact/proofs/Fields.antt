-- The fields of heads and movements are read, or refused with 51, at the first of them that is wrong: in a record, and in a row.
-- Assumes nothing.
use mathlib.Core.Bool.{Bool}
use mathlib.Core.List.{List, [], ◌∷◌}
use Prim.Native.Nat.{ℕ, ◌+◌, ◌≤◌}
use native.Mathlib.Omega.{arith}
use Rattle.base.proofs.Cases.{either}
use Rattle.paper.specs.Read.{Field, value, fault}
use Rattle.paper.specs.Accounts.{Account}
use Rattle.paper.specs.Entries.{Said, got, no, on_field}
use Rattle.gpc.specs.Parts.{slice, or51}
use Rattle.gpc.specs.Internal.{read_internal}
use Rattle.gpc.specs.Signed.{Signed, read_digits, balance_plus, turnover_plus, read_minus, on_signed}
use Rattle.gpc.specs.Records.{Head, Movement, read_code, read_head, read_movement}
use Rattle.gpc.specs.StatementRows.{test, account_test, signed_test, head_tested, movement_tested}

-- ---- one field

data By51 {A : Type 0} : Field A → Type 0 where
  is-value : {v : A} → By51 (value v)
  is_fault : By51 (fault 51)

or51-by : {A : Type 0} (x : Field A) → By51 (or51 x)
unfolding or51
or51-by (value v) = is-value
or51-by (fault n) = is_fault

internal-by : (s : List ℕ) → By51 (read_internal s)
unfolding read_internal
internal-by s = or51-by _

digits-by : (k : ℕ) (s : List ℕ) → By51 (read_digits k s)
unfolding read_digits
digits-by k s = or51-by _

minus-by : (plus : ℕ) (s : List ℕ) → By51 (read_minus plus s)
unfolding read_minus
minus-by plus [] = is_fault
minus-by plus (x ∷ s) = either By51 _ (λ _. is-value) (λ _. either By51 _ (λ _. is-value) (λ _. is_fault))

code_by : (s : List ℕ) → By51 (read_code s)
unfolding read_code
code_by [] = is_fault
code_by (x ∷ s) = either By51 _ (λ _. is-value) (λ _. is_fault)

-- ---- several: the last of them is at `most`

pub data Only (most : ℕ) {A : Type 0} : Said A → Type 0 where
  is_read : {a : A} → Only most (got a)
  is_wrong : {off : ℕ} → off ≤ most → Only most (no 51 off)

pub only-more : {few most : ℕ} {A : Type 0} {x : Said A} → few ≤ most → Only few x → Only most x
only-more h is_read = is_read
only-more h (is_wrong {off = off} g) = is_wrong {off = off} (omega arith)

module _ (most : ℕ) {B : Type 0} where
  field-only : {A : Type 0} (at : ℕ) {x : Field A} {k : A → Said B} → at ≤ most → By51 x → ((v : A) → Only most (k v)) → Only most (on_field at x k)
  unfolding on_field
  field-only at h (is-value {v = v}) f = f v
  field-only at h is_fault f = is_wrong h

  signed-only : (plus at : ℕ) (s : List ℕ) {k : Signed → Said B} → at + 14 ≤ most → ((x : Signed) → Only most (k x)) → Only most (on_signed plus at s k)
  unfolding on_signed
  signed-only plus at s h f =
      field-only at (omega arith) (digits-by 14 (slice at 14 s)) λ n. field-only (at + 14) h (minus-by plus (slice (at + 14) 1 s)) λ minus. f _

  test-only : (i : ℕ) (ok : Bool) {rest : Said B} → i ≤ most → Only most rest → Only most (test i ok rest)
  unfolding test
  test-only i ok h r = either (Only most) ok (λ _. r) (λ _. is_wrong h)

  account-only : (i j : ℕ) (a : Account) {rest : Said B} → i ≤ most → j ≤ most → Only most rest → Only most (account_test i j a rest)
  unfolding account_test
  account-only i j a h g r = test-only i _ h (test-only j _ g r)

  size-only : (i : ℕ) (x : Signed) {rest : Said B} → i ≤ most → Only most rest → Only most (signed_test i x rest)
  unfolding signed_test
  size-only i x h r = test-only i _ h r

-- ---- in a record

pub head-only : (s : List ℕ) → Only 104 (read_head s)
unfolding read_head
head-only s =
    field-only 104 3 (omega arith) (internal-by (slice 3 16 s)) λ account.
    signed-only 104 balance_plus 45 s (omega arith) λ old.
    signed-only 104 balance_plus 60 s (omega arith) λ new.
    signed-only 104 turnover_plus 75 s (omega arith) λ debit.
    signed-only 104 turnover_plus 90 s (omega arith) λ credit.
    is_read

pub movement-only : (s : List ℕ) → Only 61 (read_movement s)
unfolding read_movement
movement-only s =
    field-only 61 3 (omega arith) (internal-by (slice 3 16 s)) λ account.
    field-only 61 19 (omega arith) (internal-by (slice 19 16 s)) λ other.
    field-only 61 48 (omega arith) (digits-by 12 (slice 48 12 s)) λ amount.
    field-only 61 60 (omega arith) (code_by (slice 60 1 s)) λ code.
    field-only 61 61 (omega arith) (digits-by 10 (slice 61 10 s)) λ variable.
    is_read

-- ---- in a row

pub head-tests : (h : Head) → Only 6 (head_tested h)
unfolding head_tested
head-tests h =
    account-only 6 1 2 h.account (omega arith) (omega arith)
    (size-only 6 3 h.old (omega arith)
    (size-only 6 4 h.new (omega arith) (size-only 6 5 h.debit (omega arith) (size-only 6 6 h.credit (omega arith) is_read))))

pub movement-tests : (m : Movement) → Only 7 (movement_tested m)
unfolding movement_tested
movement-tests m =
    account-only 7 1 2 m.account (omega arith) (omega arith)
    (account-only 7 3 4 m.other (omega arith) (omega arith)
    (test-only 7 5 _ (omega arith) (test-only 7 6 _ (omega arith) (test-only 7 7 _ (omega arith) is_read))))
