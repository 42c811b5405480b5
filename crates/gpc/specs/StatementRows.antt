-- The rows of statements in lent bytes: what they hold, which of them can be written, and which rows reading leaves. Document 02, W-204;
-- docs/ROWS.md. Assumes nothing.
use Rattle.std.specs.Prelude.{ℕ, ◌*◌, Bool, List, [], ◌∷◌, ◌++◌, eqb, ltb, leb, length}
use Rattle.base.specs.Pick.{pick}
use Rattle.paper.specs.Accounts.{Account, account}
use Rattle.paper.specs.Batch.{most14}
use Rattle.paper.specs.Entries.{Said, got, no}
use Rattle.paper.specs.Words.{word_of, words_bytes, blanks}
use Rattle.gpc.specs.Parts.{slice, pieces}
use Rattle.gpc.specs.Signed.{Signed, signed_word, word_signed}
use Rattle.gpc.specs.Turnovers.{is_code, most12}
use Rattle.gpc.specs.Records.{Head, Movement, Thing, a_head, a_movement, strange, Record, head_is, movement_is, no_record}

-- a row is 17 words of 8 bytes: eight numbers, and the kept bytes behind them
abbrev pub statement_row : ℕ
statement_row = 136

-- ---- what a row holds

-- word i of a row
abbrev pub word_in : List ℕ → ℕ → ℕ
word_in r i = word_of (slice (8 * i) 8 r)

-- a head's row: account, both balances, both turnovers; 49 kept bytes
unfoldable pub head_in : List ℕ → Head
head_in r =
    record {
      account = account (word_in r 1) (word_in r 2);
      before = slice 64 26 r;
      old = word_signed (word_in r 3);
      new = word_signed (word_in r 4);
      debit = word_signed (word_in r 5);
      credit = word_signed (word_in r 6);
      behind = slice 90 23 r;
    }

-- a movement's row: account, other account, amount, code, variable symbol; 70 kept bytes
unfoldable pub movement_in : List ℕ → Movement
movement_in r =
    record {
      account = account (word_in r 1) (word_in r 2);
      other = account (word_in r 3) (word_in r 4);
      before = slice 64 13 r;
      amount = word_in r 5;
      code = word_in r 6;
      variable = word_in r 7;
      behind = slice 77 57 r;
    }

-- word 0 says which; a row that is cut short is neither
unfoldable pub thing_in : List ℕ → Thing
thing_in r =
    pick (ltb (length r) statement_row) strange
    (pick (eqb (word_in r 0) 74) (a_head (head_in r)) (pick (eqb (word_in r 0) 75) (a_movement (movement_in r)) strange))

-- several rows
unfoldable pub things_on : List (List ℕ) → List Thing
things_on [] = []
things_on (r ∷ rs) = thing_in r ∷ things_on rs

-- all rows of lent bytes
unfoldable pub things_in : List ℕ → List Thing
things_in rows = things_on (pieces statement_row rows)

-- ---- 51: a number that passes its digits, or is no code, at the first such word

-- word i passes its test, and what follows is tested; or it does not
unfoldable pub test : {A : Type 0} → ℕ → Bool → Said A → Said A
test i ok rest = pick ok rest (no 51 i)

-- an account whose words are i and j: six digits and ten
unfoldable pub account_test : {A : Type 0} → ℕ → ℕ → Account → Said A → Said A
account_test i j a rest = test i (ltb a.prefix 1000000) (test j (ltb a.base 10000000000) rest)

-- a balance or turnover: fourteen digits, whatever its sign
unfoldable pub signed_test : {A : Type 0} → ℕ → Signed → Said A → Said A
signed_test i x rest = test i (leb x.size most14) rest

-- a head
unfoldable pub head_tested : Head → Said Head
head_tested h =
    account_test 1 2 h.account (signed_test 3 h.old (signed_test 4 h.new (signed_test 5 h.debit (signed_test 6 h.credit (got h)))))

-- a movement
unfoldable pub movement_tested : Movement → Said Movement
movement_tested m =
    account_test 1 2 m.account
    (account_test 3 4 m.other
    (test 5 (leb m.amount most12) (test 6 (is_code m.code) (test 7 (ltb m.variable 10000000000) (got m)))))

-- a thing as it would be written
unfoldable pub tested : Thing → Record
tested (a_head h) = head_is (head_tested h)
tested (a_movement m) = movement_is (movement_tested m)
tested strange = no_record

-- several
unfoldable pub testeds : List Thing → List Record
testeds [] = []
testeds (t ∷ ts) = tested t ∷ testeds ts

-- ---- rows as reading leaves them; what a kind does not use is 0

-- a head's: word 7 and the last 23 bytes are not used
unfoldable pub head_row : Head → List ℕ
head_row h =
    words_bytes
    (74
    ∷ h.account.prefix
    ∷ h.account.base
    ∷ signed_word h.old
    ∷ signed_word h.new
    ∷ signed_word h.debit
    ∷ signed_word h.credit
    ∷ 0
    ∷ [])
    ++ (h.before ++ (h.behind ++ blanks 23))

-- a movement's: the last two bytes are not used
unfoldable pub movement_row : Movement → List ℕ
movement_row m =
    words_bytes
    (75
    ∷ m.account.prefix
    ∷ m.account.base
    ∷ m.other.prefix
    ∷ m.other.base
    ∷ m.amount
    ∷ m.code
    ∷ m.variable
    ∷ [])
    ++ (m.before ++ (m.behind ++ blanks 2))

-- a thing's
unfoldable pub thing_row : Thing → List ℕ
thing_row (a_head h) = head_row h
thing_row (a_movement m) = movement_row m
thing_row strange = []

-- those of several
unfoldable pub things_rows : List Thing → List ℕ
things_rows [] = []
things_rows (t ∷ ts) = thing_row t ++ things_rows ts
