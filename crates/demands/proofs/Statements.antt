-- What is demanded of the two calls on statements (document 02, W-204), on one page. The definitions are those of the crate gpc, which the
-- contracts of the calls name: `statement_answer` and `statement_rows` of abo_statement_read, `statement_draft` of abo_statement_write, whose
-- answer and output are document 01's `written_in` and `output_after`. The functions that make calls are in ../src/lib.rt. Assumes nothing.
use mathlib.Core.Path.{◌≡◌}
use mathlib.Core.Bool.{true, false}
use mathlib.Core.List.{List, [], ◌∷◌}
use mathlib.Core.Logic.{◌↔◌}
use Prim.Native.Nat.{ℕ, suc, ◌+◌, ◌*◌, ◌/◌, ◌≤◌, ◌<◌}
use lib.ListN.{length, take}
use Rattle.base.specs.Seek.{all}
use Rattle.paper.specs.Read.{value}
use Rattle.paper.specs.Bytes.{bytes, is_digit}
use Rattle.paper.specs.Numerals.{fixed}
use Rattle.paper.specs.Entries.{Said}
use Rattle.paper.specs.Accounts.{Account, account as account-of}
use Rattle.paper.specs.Writing.{drafted, refusal, Refuses, written_in, output_after}
-- the internal form of an account
use Rattle.gpc.specs.Internal.{internal, edited, read_internal, spell_internal}
-- numbers with a sign, and what movements add up to
use Rattle.gpc.specs.Parts.{slice}
use Rattle.gpc.specs.Signed.{Signed, Fourteen, is_difference, above, below, on_signed}
use Rattle.gpc.specs.Turnovers.{moved, is_code, part, balanced}
-- a record, its statements, what a file spells, its first fault
use Rattle.gpc.specs.Records.{record_size, records_in}
use Rattle.gpc.specs.Statements.{Statement, record_spots, row_spots}
use Rattle.gpc.specs.Spelled.{Spells}
use Rattle.gpc.specs.FirstFault.{FirstFault}
-- the canonical file; a file without a minus before zero; the bytes that are kept
use Rattle.gpc.specs.Canonical.{canon, plain, kept}
-- rows, and the answers of the calls
use Rattle.gpc.specs.StatementRows.{statement_row, things_in, testeds}
use Rattle.gpc.specs.Answers.{refused_at, row_count, statement_answer, statement_rows, statement_draft}
-- an answer together with the bytes that are left
use Rattle.gpcwhole.specs.Outcomes.{Hold, ReadsAs, WritesAs}
use Rattle.abo.proofs.abo_statement_read.Statement as read-contract
use Rattle.abo.proofs.abo_statement_read.Met as read-call
use Rattle.abo.proofs.abo_statement_write.Statement as write-contract
use Rattle.abo.proofs.abo_statement_write.Met as write-call
use Rattle.demands.proofs.statement_read_twice.Statement as read-twice-contract
use Rattle.demands.proofs.statement_read_twice.Met as read-twice-call
use Rattle.demands.proofs.statement_write_twice.Statement as write-twice-contract
use Rattle.demands.proofs.statement_write_twice.Met as write-twice-call
use Rattle.demands.proofs.statement_write_and_read.Statement as write-and-read-contract
use Rattle.demands.proofs.statement_write_and_read.Met as write-and-read-call
use Rattle.outcomes.proofs.Kept as output
use Rattle.internal.proofs.Laws as account
use Rattle.internal.proofs.Examples as examples
use Rattle.turnover.proofs.Laws as sums
use Rattle.gpcexact.proofs.Faults as faults
use Rattle.gpcwhole.proofs.Reading as reading
use Rattle.gpcwhole.proofs.Writing as writing
use Rattle.gpcwhole.proofs.Again as again

-- ---- Both calls meet their contracts for every input, made twice they answer alike, and a refusal changes nothing that was lent

pub abo-statement-read : {M : Type 1} → read-contract.statement M
abo-statement-read = read-call.met

pub abo-statement-write : {M : Type 1} → write-contract.statement M
abo-statement-write = write-call.met

pub read_twice : {M : Type 1} → read-twice-contract.statement M
read_twice = read-twice-call.met

pub write-twice : {M : Type 1} → write-twice-contract.statement M
write-twice = write-twice-call.met

pub reading-refused : (f lent : List ℕ) → ((statement_answer f lent).number ≡ 0 → ⊥) → statement_rows f lent ≡ lent
reading-refused = reading.rows-kept

pub writing-refused : (rows out : List ℕ) → ((written_in (length out) (statement_draft rows)).number ≡ 0 → ⊥) → output_after out (statement_draft rows) ≡ out
writing-refused rows = output.output-kept (statement_draft rows)

-- ---- The internal form of an account

-- It and its inverse undo each other, for any sixteen digits, and bytes that are none;
pub in-out : (d : List ℕ) → length d ≡ 16 → edited (internal d) ≡ d
in-out = account.in-out

pub out-in : (d : List ℕ) → length d ≡ 16 → internal (edited d) ≡ d
out-in = account.out-in

-- any sixteen digits are an account, which is spelled so and not otherwise;
pub any-sixteen : (s : List ℕ) → length s ≡ 16 → all is_digit s ≡ true → (a : Account) × (read_internal s ≡ value a)
any-sixteen = account.any-sixteen

pub one-account : (s : List ℕ) (a : Account) → read_internal s ≡ value a → spell_internal a ≡ s
one-account = account.spelled

-- 19-19 is 9010000000000019.
pub nineteen : (spell_internal (account-of 19 19) ≡ bytes "9010000000000019") × (read_internal (bytes "9010000000000019") ≡ value (account-of 19 19))
nineteen = ((examples.spelled).0, (examples.read).0)

-- ---- Sums

-- Minus before fourteen zeros is read as zero.
pub minus-zero : {B : Type 0} (plus at : ℕ) (s : List ℕ) (k : Signed → Said B) → slice at 14 s ≡ fixed 14 0 → slice (at + 14) 1 s ≡ 45 ∷ []
    → on_signed plus at s k ≡ k (record { minus = false; size = 0 })
minus-zero = sums.field-zero

-- A movement of one of the four codes is counted in one sum, whole.
pub counted-once : (c n : ℕ) → is_code c ≡ true → part 1 (moved c n) + part 4 (moved c n) + (part 2 (moved c n) + part 5 (moved c n)) ≡ n
counted-once = sums.code-counted

-- Sums are natural numbers, of any size: of all that fourteen digits and a sign can say, one number is the turnover at most,
pub one-turnover : (up down : ℕ) (x y : Signed) → Fourteen x → Fourteen y → is_difference up down x ≡ true → is_difference up down y ≡ true → x ≡ y
one-turnover = sums.one-difference

-- and the test of a balance is that of new = old − debit + credit.
pub new-balance : (old new debit credit : Signed)
    → balanced old new debit credit ≡ is_difference (above old + below debit + above credit) (below old + above debit + below credit) new
new-balance = sums.balance-difference

-- ---- Reading

module _ (f lent : List ℕ) where
  -- With room for its rows a file is accepted as statements exactly if it spells them, and the rows that are left hold them;
  pub accepted : (ss : List Statement) → row_count ss ≤ length lent / statement_row → ReadsAs f lent ss ↔ Spells f ss
  accepted = reading.reads f lent

  -- these are the only ones that it spells.
  pub one-reading : (ss ss' : List Statement) → Spells f ss → Spells f ss' → ss ≡ ss'
  one-reading = reading.one-reading f

  -- It is refused with a number, behind k records, at a place of the next, exactly if a rule is broken there and none before it in the testing order;
  pub refused : (n k off : ℕ) → statement_answer f lent ≡ refused_at n k off ↔ FirstFault record_spots (records_in f) n k off
  refused = reading.refuses f lent

  -- a refusal has a number from 50 to 53, and points into the file, at one of its records or behind the last,
  pub refused-inside : (n k off : ℕ) → statement_answer f lent ≡ refused_at n k off
      → (50 ≤ n) × (n ≤ 53) × (k ≤ length (records_in f)) × (record_size * k + off ≤ length f)
  refused-inside = reading.refused-by f lent

  -- as every answer does that is neither 0 nor 16;
  pub no-other-number : ((statement_answer f lent).number ≡ 0 → ⊥) → ((statement_answer f lent).number ≡ 16 → ⊥)
      → (50 ≤ (statement_answer f lent).number) × ((statement_answer f lent).number ≤ 53)
      × (1 ≤ (statement_answer f lent).line) × ((statement_answer f lent).line ≤ suc (length (records_in f)))
      × ((statement_answer f lent).byte ≤ length f)
  no-other-number = reading.refused-inside f lent

  -- a file has one first fault,
  pub one-fault : (n n' k k' off off' : ℕ) → FirstFault record_spots (records_in f) n k off → FirstFault record_spots (records_in f) n' k' off'
      → (n ≡ n') × (k ≡ k') × (off ≡ off')
  one-fault = faults.one-fault record_spots (records_in f)

  -- and has one exactly if it spells nothing.
  pub spells_nothing : ((n : ℕ) × (k : ℕ) × (off : ℕ) × FirstFault record_spots (records_in f) n k off) ↔ ((ss : List Statement) → Spells f ss → ⊥)
  spells_nothing = (
    λ (n, k, off, o). (faults.says_nothing record_spots (records_in f)).0 (n, k, off, (faults.first-fault record_spots (records_in f) n k off).1 o),
    λ none. let (n, k, off, e) = (faults.says_nothing record_spots (records_in f)).1 none in (n, k, off, (faults.first-fault record_spots (records_in f) n k off).0 e),
  )

  -- 16 is given exactly if the file spells statements of more rows than are lent,
  pub read-16 : (statement_answer f lent).number ≡ 16 ↔ ((ss : List Statement) × Spells f ss × (length lent / statement_row < row_count ss))
  read-16 = reading.number-16 f lent

  -- and then their rows are needed.
  pub read-needed : (ss : List Statement) → Spells f ss → length lent / statement_row < row_count ss → (statement_answer f lent).needed ≡ row_count ss
  read-needed = reading.needed-16 f lent

-- ---- Writing

module _ (rows : List ℕ) where
  -- Writing is refused exactly if no file at all is read as what these rows hold,
  pub refused-exactly : Refuses (statement_draft rows) ↔ ((ss : List Statement) (f : List ℕ) → Hold rows ss → Spells f ss → ⊥)
  refused-exactly = writing.refused-exactly rows

  -- with a number, a row and a word exactly if a rule is broken there and none before it in the testing order,
  pub refused-first : (n k off : ℕ) → statement_draft rows ≡ refusal n (suc k) off ↔ FirstFault row_spots (testeds (things_in rows)) n k off
  refused-first = writing.write-refuses rows

  -- which is a number from 50 to 53, and a word from 0 to 7,
  pub refused-by : (n row field : ℕ) → statement_draft rows ≡ refusal n row field → (50 ≤ n) × (n ≤ 53) × (1 ≤ row) × (field ≤ 7)
  refused-by = writing.refused-by rows

  -- of one of the lent rows, or behind the last.
  pub refused-row : (n row field : ℕ) → statement_draft rows ≡ refusal n row field → row ≤ suc (length (things_in rows))
  refused-row = writing.refused-row rows

  -- What is written is the one canonical file of the statements that the rows hold.
  pub canonical : (out s : List ℕ) → WritesAs rows out s → (ss : List Statement) × Hold rows ss × (s ≡ canon ss)
  canonical = writing.canonical rows

  -- Otherwise a file is written, wherever there is room for it, that spells them,
  pub otherwise-written : (Refuses (statement_draft rows) → ⊥)
      → (ss : List Statement) × Hold rows ss × ((out : List ℕ) → length (canon ss) ≤ length out → WritesAs rows out (canon ss)) × Spells (canon ss) ss
  otherwise-written = writing.otherwise-written rows

  -- and that, with room for its rows, is read back as exactly these.
  pub read_back : (Refuses (statement_draft rows) → ⊥)
      → (ss : List Statement) × Hold rows ss × ((lent : List ℕ) → row_count ss ≤ length lent / statement_row → ReadsAs (canon ss) lent ss)
  read_back = writing.read_back rows

  -- 16 is given exactly if there is such a file, of more bytes than are lent,
  pub write-16 : (room : ℕ) → (written_in room (statement_draft rows)).number ≡ 16
      ↔ ((ss : List Statement) × (f : List ℕ) × Hold rows ss × Spells f ss × (room < record_size * row_count ss))
  write-16 = writing.write-16 rows

  -- and then its bytes are needed.
  pub write-needed : (room : ℕ) (f : List ℕ) (ss : List Statement) → Hold rows ss → Spells f ss → room < record_size * row_count ss
      → (written_in room (statement_draft rows)).bytes ≡ record_size * row_count ss
  write-needed = writing.bytes-16 rows

-- Rows that hold the same statements are written alike, whatever stands in their unused words and bytes.
pub one-file : (rows rows' : List ℕ) (ss : List Statement) → Hold rows ss → Hold rows' ss → statement_draft rows ≡ statement_draft rows'
one-file = writing.one-file

-- By the two calls, one after the other: what abo_statement_write writes, abo_statement_read reads back.
pub write-and-read : {M : Type 1} → write-and-read-contract.statement M
write-and-read = write-and-read-call.met

-- ---- What was read, written again

module _ (f : List ℕ) (ss : List Statement) (s : Spells f ss) where
  -- It is written as the same bytes, but with no minus before zero: `plain` puts plus or 0 there and changes no other byte,
  pub written-again : canon ss ≡ plain f
  written-again = again.again f ss s

  -- from the rows that reading left,
  pub read-then-written : (lent : List ℕ) → row_count ss ≤ length lent / statement_row
      → statement_draft (take (statement_row * row_count ss) (statement_rows f lent)) ≡ drafted (plain f)
  read-then-written = again.read-then-written f ss s

  -- with every kept byte in its place,
  pub kept-bytes : kept (canon ss) ≡ kept f
  kept-bytes = again.kept-bytes f ss s

  -- in as many bytes, and it spells the same.
  pub same_length : length (plain f) ≡ length f
  same_length = again.same_length f ss s

  pub same-statements : Spells (plain f) ss
  same-statements = again.plain-again f ss s

-- Two files that spell the same statements differ in such signs alone.
pub one-spelling : (f f' : List ℕ) (ss : List Statement) → Spells f ss → Spells f' ss → plain f ≡ plain f'
one-spelling = again.one-spelling

-- Different statements have different files.
pub one-to-one : (f f' : List ℕ) (ss ss' : List Statement) → Spells f ss → Spells f' ss' → canon ss ≡ canon ss' → ss ≡ ss'
one-to-one = again.one-to-one
