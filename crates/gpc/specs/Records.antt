-- One record: the head of a statement (074) or a movement (075), how its bytes are read, and its one spelling. Document 02, W-204; places count
-- from 0. Assumes nothing.
use Rattle.std.specs.Prelude.{ℕ, ◌-◌, List, [], ◌∷◌, ◌++◌, drop}
use Rattle.base.specs.Pick.{pick}
use Rattle.base.specs.Seek.{starts}
use Rattle.paper.specs.Read.{Field, value, fault}
use Rattle.paper.specs.Bytes.{bytes}
use Rattle.paper.specs.Numerals.{fixed}
use Rattle.paper.specs.Accounts.{Account}
use Rattle.paper.specs.Entries.{Said, got, on_field}
use Rattle.gpc.specs.Parts.{slice, pieces}
use Rattle.gpc.specs.Internal.{read_internal, spell_internal}
use Rattle.gpc.specs.Signed.{Signed, read_digits, balance_plus, turnover_plus, on_signed, spell_signed}
use Rattle.gpc.specs.Turnovers.{is_code}

-- ---- what a record says

-- The head of a statement: whose it is; the kept bytes behind the account (short name 20, day of the old balance 6); old and new balance,
-- debit and credit turnover; the kept bytes behind them (statement's number 3, posting day 6, rest 14).
pub record Head : Type 0 where
  pub account : Account
  pub before : List ℕ
  pub old : Signed
  pub new : Signed
  pub debit : Signed
  pub credit : Signed
  pub behind : List ℕ

-- A movement: both accounts; the kept bytes behind them (document number 13); amount, posting code, variable symbol; the kept bytes behind
-- these (constant symbol 10, specific symbol 10, value day 6, further text 20, code of change 1, kind of data 4, due day 6).
pub record Movement : Type 0 where
  pub account : Account
  pub other : Account
  pub before : List ℕ
  pub amount : ℕ
  pub code : ℕ
  pub variable : ℕ
  pub behind : List ℕ

-- one thing of a list of statements; `strange` is what neither a head nor a movement says
pub data Thing : Type 0 where
  a_head : Head → Thing
  a_movement : Movement → Thing
  strange : Thing

-- What stands where a record is due: a head or a movement, which is read or refused with a number and a place in it; or no record.
pub data Record : Type 0 where
  head_is : Said Head → Record
  movement_is : Said Movement → Record
  no_record : Record

-- a thing that is read as it is
unfoldable pub said : Thing → Record
said (a_head h) = head_is (got h)
said (a_movement m) = movement_is (got m)
said strange = no_record

-- all of them
unfoldable pub saids : List Thing → List Record
saids [] = []
saids (t ∷ ts) = said t ∷ saids ts

-- ---- how a record is read: fields from left to right, each by its place; what is kept has no rule

-- one digit that is a posting code: 51 otherwise
unfoldable pub read_code : List ℕ → Field ℕ
read_code [] = fault 51
read_code (x ∷ s) = pick (is_code (x - 48)) (value (x - 48)) (fault 51)

-- a head's bytes
unfoldable pub read_head : List ℕ → Said Head
read_head s =
    on_field 3 (read_internal (slice 3 16 s)) λ account.
    on_signed balance_plus 45 s λ old.
    on_signed balance_plus 60 s λ new.
    on_signed turnover_plus 75 s λ debit.
    on_signed turnover_plus 90 s λ credit.
    got
    record { account = account; before = slice 19 26 s; old = old; new = new; debit = debit; credit = credit; behind = slice 105 23 s }

-- a movement's bytes
unfoldable pub read_movement : List ℕ → Said Movement
read_movement s =
    on_field 3 (read_internal (slice 3 16 s)) λ account.
    on_field 19 (read_internal (slice 19 16 s)) λ other.
    on_field 48 (read_digits 12 (slice 48 12 s)) λ amount.
    on_field 60 (read_code (slice 60 1 s)) λ code.
    on_field 61 (read_digits 10 (slice 61 10 s)) λ variable.
    got
    record {
      account = account;
      other = other;
      before = slice 35 13 s;
      amount = amount;
      code = code;
      variable = variable;
      behind = slice 71 57 s;
    }

-- CR LF, behind the 128 bytes of every record
abbrev pub crlf : List ℕ
crlf = 13 ∷ 10 ∷ []

-- a record with its line end is so long
abbrev pub record_size : ℕ
record_size = 130

-- bytes where a record is due: whole, and of one of the two types
unfoldable pub read_record : List ℕ → Record
read_record s =
    pick (starts crlf (drop 128 s))
    (pick (starts (bytes "074") s) (head_is (read_head s)) (pick (starts (bytes "075") s) (movement_is (read_movement s)) no_record))
    no_record

-- several pieces of bytes
unfoldable pub read_records : List (List ℕ) → List Record
read_records [] = []
read_records (s ∷ ss) = read_record s ∷ read_records ss

-- the records of a file; nothing but the count of bytes tells where one ends, and bytes that are left over are no record
unfoldable pub records_in : List ℕ → List Record
records_in f = read_records (pieces record_size f)

-- ---- its one spelling

-- a head
unfoldable pub spell_head : Head → List ℕ
spell_head h =
    bytes "074"
    ++ (spell_internal h.account
    ++ (h.before
    ++ (spell_signed balance_plus h.old
    ++ (spell_signed balance_plus h.new
    ++ (spell_signed turnover_plus h.debit ++ (spell_signed turnover_plus h.credit ++ (h.behind ++ crlf)))))))

-- a movement
unfoldable pub spell_movement : Movement → List ℕ
spell_movement m =
    bytes "075"
    ++ (spell_internal m.account
    ++ (spell_internal m.other
    ++ (m.before ++ (fixed 12 m.amount ++ (fixed 1 m.code ++ (fixed 10 m.variable ++ (m.behind ++ crlf)))))))

-- .. of a thing
unfoldable pub spell : Thing → List ℕ
spell (a_head h) = spell_head h
spell (a_movement m) = spell_movement m
spell strange = []

-- .. of several
unfoldable pub spells : List Thing → List ℕ
spells [] = []
spells (t ∷ ts) = spell t ++ spells ts
