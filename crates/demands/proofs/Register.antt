-- What is demanded of the five calls that keep the day's numbers (document 02, W-207), on one page. The contracts of the calls name
-- `start_answer`, `start_after`, `lowest_answer`, `free_answer`, `give_answer`, `give_after` (crate register) and `registered_answer`, `registered_rows`,
-- `register_after` (crate against). The functions that make calls are in ../src/lib.rt. Assumes nothing.
use Rattle.std.proofs.Common.{Some}
use Prim.Native.Nat.{ℕ, ◌+◌, ◌/◌, ◌^◌, ◌≤◌, ◌<◌}
use mathlib.Core.Path.{◌≡◌}
use mathlib.Core.Bool.{true, false}
use mathlib.Core.List.{List, [], ◌∷◌}
use mathlib.Core.Logic.{◌↔◌}
use lib.ListN.{length}
use Rattle.sheet.specs.declared.Sheet.{Sheet}
use Rattle.sheet.specs.Sheets.{sheet_of}
use Rattle.sheet.proofs.Laws.{sane}
use Rattle.paper.specs.Days.{real_day}
use Rattle.paper.specs.Batch.{Batch, Header}
use Rattle.paper.specs.Spells.{Spells}
use Rattle.paper.specs.Judge.{seen}
use Rattle.paper.specs.Rows.{row_size}
use Rattle.paper.specs.Reading.{refused_at, row_count, read_answer, rows_after}
use Rattle.exact.specs.named.Numbers.{Judged}
-- a set of numbers, and a register in lent bytes
use Rattle.register.specs.Marks.{Marks, none, with, without, taken, free, lowest}
use Rattle.register.specs.Register.{of, register_size, register_of, fits, used, laid_in, answer, start_answer, start_after, is_given, give_answer, give_after}
-- reading against it, and when 22 and 23 are the first fault
use Rattle.against.specs.Registered.{registered_answer, registered_rows, register_after}
use Rattle.against.specs.FirstUsed.{Unused, OtherDate, UsedNumber}
use Rattle.against.specs.Outcomes.{RegisteredAs}
use Rattle.enrol.proofs.abo_register_start.Statement as start-contract
use Rattle.enrol.proofs.abo_register_start.Met as start-call
use Rattle.enrol.proofs.abo_register_lowest.Statement as lowest-contract
use Rattle.enrol.proofs.abo_register_lowest.Met as lowest-call
use Rattle.enrol.proofs.abo_register_free.Statement as free-contract
use Rattle.enrol.proofs.abo_register_free.Met as free-call
use Rattle.enrol.proofs.abo_register_give_back.Statement as give-back-contract
use Rattle.enrol.proofs.abo_register_give_back.Met as give-back-call
use Rattle.enrol.proofs.abo_read_registered.Statement as registered-contract
use Rattle.enrol.proofs.abo_read_registered.Met as registered-call
use Rattle.demands.proofs.register_start_twice.Statement as start-twice-contract
use Rattle.demands.proofs.register_start_twice.Met as start-twice-call
use Rattle.demands.proofs.register_lowest_twice.Statement as lowest-twice-contract
use Rattle.demands.proofs.register_lowest_twice.Met as lowest-twice-call
use Rattle.demands.proofs.register_free_twice.Statement as free-twice-contract
use Rattle.demands.proofs.register_free_twice.Met as free-twice-call
use Rattle.demands.proofs.register_give_back_twice.Statement as give-back-twice-contract
use Rattle.demands.proofs.register_give_back_twice.Met as give-back-twice-call
use Rattle.demands.proofs.read_registered_twice.Statement as registered-twice-contract
use Rattle.demands.proofs.read_registered_twice.Met as registered-twice-call
use Rattle.demands.proofs.start_and_ask.Statement as start-and-ask-contract
use Rattle.demands.proofs.start_and_ask.Met as start-and-ask-call
use Rattle.demands.proofs.give_back_and_ask.Statement as give-back-and-ask-contract
use Rattle.demands.proofs.give_back_and_ask.Met as give-back-and-ask-call
use Rattle.register.proofs.Laws as laws
use Rattle.against.proofs.Reading as against
use Rattle.against.proofs.Headed.{headed}

-- ---- The calls meet their contracts for every input, made twice they answer alike, and a refusal changes nothing that was lent

pub abo-register-start : {M : Type 1} → start-contract.statement M
abo-register-start = start-call.met

pub abo-register-lowest : {M : Type 1} → lowest-contract.statement M
abo-register-lowest = lowest-call.met

pub abo-register-free : {M : Type 1} → free-contract.statement M
abo-register-free = free-call.met

pub abo-register-give-back : {M : Type 1} → give-back-contract.statement M
abo-register-give-back = give-back-call.met

pub abo-read-registered : {M : Type 1} → registered-contract.statement M
abo-read-registered = registered-call.met

pub start-twice : {M : Type 1} → start-twice-contract.statement M
start-twice = start-twice-call.met

pub lowest-twice : {M : Type 1} → lowest-twice-contract.statement M
lowest-twice = lowest-twice-call.met

pub free-twice : {M : Type 1} → free-twice-contract.statement M
free-twice = free-twice-call.met

pub give-back-twice : {M : Type 1} → give-back-twice-contract.statement M
give-back-twice = give-back-twice-call.met

pub registered-twice : {M : Type 1} → registered-twice-contract.statement M
registered-twice = registered-twice-call.met

pub start-refused : (lent : List ℕ) (d : ℕ) → ((start_answer d lent).number ≡ 0 → ⊥) → start_after d lent ≡ lent
start-refused = laws.start-kept

pub give-back-refused : (lent : List ℕ) (n : ℕ) → ((give_answer lent n).number ≡ 0 → ⊥) → give_after lent n ≡ lent
give-back-refused = laws.give_kept

-- 16 too
pub registered-refused : (sheet today : ℕ) (f lent register : List ℕ) → ((registered_answer sheet today f lent register).number ≡ 0 → ⊥)
    → (registered_rows sheet today f lent register ≡ lent) × (register_after sheet today f lent register ≡ register)
registered-refused = against.registered-kept

-- ---- The register

-- What a call leaves is laid out as a register, of the date and the marks that it was given; and what is laid out has a real day and no number above 999.
pub laid-back : (lent : List ℕ) (d : ℕ) (p : Marks) → register_size ≤ length lent → real_day d ≡ true → ((n : ℕ) → 1000 ≤ n → p n ≡ false) → register_of (laid_in lent d p) ≡ of d p
laid-back = laws.laid-back

pub laid-free : (lent : List ℕ) (d : ℕ) (p : Marks) → register_of lent ≡ of d p → (real_day d ≡ true) × ((n : ℕ) → 1000 ≤ n → p n ≡ false)
laid-free = laws.laid-free

-- A new day starts empty; asked behind it, all numbers are free and the lowest is 0.
pub started : (lent : List ℕ) (d : ℕ) → real_day d ≡ true → register_size ≤ length lent → register_of (start_after d lent) ≡ of d none
started = laws.started

pub start-and-ask : {M : Type 1} → start-and-ask-contract.statement M
start-and-ask = start-and-ask-call.met

-- The lowest free number: all below it are marked, it is not, and it is 1,000 only if none is free; marked and free numbers are 1,000 together.
pub lowest-marked : (p : Marks) (m k : ℕ) → k < lowest p m → p k ≡ true
lowest-marked = laws.lowest-marked

pub lowest-free : (p : Marks) (m : ℕ) → lowest p m < m → p (lowest p m) ≡ false
lowest-free = laws.lowest-free

pub lowest-least : (p : Marks) (m k : ℕ) → k < m → p k ≡ false → lowest p m ≤ k
lowest-least = laws.lowest-least

pub taken_free : (p : Marks) (m : ℕ) → taken p m + free p m ≡ m
taken_free = laws.taken_free

-- Giving a number back undoes taking it, and taking it undoes giving it back; no other number changes; the lowest free one is not above it then, and it is not
-- given back twice.
pub give-mark : (n : ℕ) (p : Marks) → p n ≡ false → without n (with (n ∷ []) p) ≡ p
give-mark = laws.give-mark

pub mark-give : (n : ℕ) (p : Marks) → p n ≡ true → with (n ∷ []) (without n p) ≡ p
mark-give = laws.mark-give

pub give-other : (n k : ℕ) (p : Marks) → (k ≡ n → ⊥) → without n p k ≡ p k
give-other = laws.give-other

pub given : (lent : List ℕ) (d : ℕ) (p : Marks) (n : ℕ) → register_of lent ≡ of d p → is_given p n ≡ true → register_of (give_after lent n) ≡ of d (without n p)
given = laws.given

pub given-again : (lent : List ℕ) (d : ℕ) (p : Marks) (n : ℕ) → register_of lent ≡ of d p → is_given p n ≡ true → give_answer (give_after lent n) n ≡ answer 24 0
given-again = laws.given-again

pub give-back-and-ask : {M : Type 1} → give-back-and-ask-contract.statement M
give-back-and-ask = give-back-and-ask-call.met

-- ---- Reading against it: a known sheet

module _ (sheet : ℕ) (sh : Sheet) (named : sheet_of sheet ≡ Some sh) (today : ℕ) (f lent register : List ℕ) where
  -- A sheet without K's number rule neither looks at the register nor changes it, whatever it holds.
  pub other-sheets : sh.interval ≡ false → (registered_answer sheet today f lent register ≡ read_answer sheet today f lent)
      × (registered_rows sheet today f lent register ≡ rows_after sheet today f lent) × (register_after sheet today f lent register ≡ register)
  other-sheets = against.other-sheets sheet sh named today f lent register

  -- K, on a real day:
  module _ (day : real_day today ≡ true) (i : sh.interval ≡ true) where
    -- with room for its rows a file is accepted as a batch, with a header and warnings, exactly if it spells these, the register is for its date and none of its numbers is marked;
    pub accepted : (h : Header) (b : Batch) (w : ℕ) → row_count b ≤ length lent / row_size → length f < 2 ^ 64
        → RegisteredAs sheet today f lent register h b w ↔ (Spells sh today f h b w × (fits (register_of register) h.date ≡ true) × Unused (used (register_of register)) b)
    accepted = against.accepted sheet sh named today f lent register day i (headed sh (sane sheet sh named) i)

    -- then answer and rows are those of reading without one,
    pub accepted-alike : (registered_answer sheet today f lent register).number ≡ 0
        → (registered_answer sheet today f lent register ≡ read_answer sheet today f lent) × (registered_rows sheet today f lent register ≡ rows_after sheet today f lent)
    accepted-alike = against.accepted-alike sheet sh named today f lent register day i (headed sh (sane sheet sh named) i)

    -- and marked is what was marked or is a number of the batch; the date and the bytes behind the register stay.
    pub accepted-marks : (registered_answer sheet today f lent register).number ≡ 0 → (h : Header) (b : Batch) (w : ℕ) → Spells sh today f h b w
        → (d : ℕ) (p : Marks) → register_of register ≡ of d p → register_after sheet today f lent register ≡ laid_in register d (with (seen b) p)
    accepted-marks = against.accepted-marks sheet sh named today f lent register day i (headed sh (sane sheet sh named) i)

    -- 22 is given exactly if a number that was used is the first fault, 23 exactly if the header's date is.
    pub refused-22 : (l p : ℕ) → registered_answer sheet today f lent register ≡ refused_at 22 l p ↔ UsedNumber (register_of register) sh today f l p
    refused-22 = against.refused-22 sheet sh named today f lent register day i (headed sh (sane sheet sh named) i)

    pub refused-23 : (l p : ℕ) → registered_answer sheet today f lent register ≡ refused_at 23 l p ↔ OtherDate (register_of register) f l p
    refused-23 = against.refused-23 sheet sh named today f lent register day i (headed sh (sane sheet sh named) i)

    -- Any other refusal of the file is the one that it gets without a register.
    pub refused-alike : (n l p : ℕ) → Judged n → registered_answer sheet today f lent register ≡ refused_at n l p → read_answer sheet today f lent ≡ refused_at n l p
    refused-alike = against.refused-alike sheet sh named today f lent register day i (headed sh (sane sheet sh named) i)
