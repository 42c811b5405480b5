-- What the answers of a record's readers stand for; the kept bytes stay where they are. Document 02, W-204. Assumes nothing.
use Rattle.std.specs.Prelude.{ℕ, ◌≤◌, ◌<◌, Result, Ok, Err, List}
use Rattle.refusal.specs.declared.Flaw.{Flaw}
use Rattle.refusal.specs.Numbers.{number_of}
use Rattle.paper.specs.Accounts.{account}
use Rattle.paper.specs.Batch.{most14}
use Rattle.paper.specs.Entries.{Said, got, no}
use Rattle.turnover.specs.signed.Told.{said as number}
use Rattle.gpc.specs.Parts.{slice}
use Rattle.gpc.specs.Turnovers.{most12}
use Rattle.gpc.specs.Records.{Head, Movement, Record, head_is, movement_is, no_record}
use Rattle.record.specs.declared.HeadFields.{HeadFields}
use Rattle.record.specs.declared.MovementFields.{MovementFields}
use Rattle.record.specs.declared.Entry.{Entry}
use Rattle.record.specs.declared.Entry.TheVariants as entry

-- the kept bytes: before and behind what is read, of a head and of a movement
pub record Kept : Type 0 where
  pub head : List ℕ
  pub head_end : List ℕ
  pub movement : List ℕ
  pub movement_end : List ℕ

-- in a record
abbrev pub in_file : List ℕ → Kept
in_file s = record { head = slice 19 26 s; head_end = slice 105 23 s; movement = slice 35 13 s; movement_end = slice 71 57 s }

-- in a row
abbrev pub in_row : List ℕ → Kept
in_row r = record { head = slice 64 26 r; head_end = slice 90 23 r; movement = slice 64 13 r; movement_end = slice 77 57 r }

-- a head with these kept bytes before and behind what is read
abbrev pub head_with : List ℕ → List ℕ → HeadFields → Head
head_with before behind x =
    record {
      account = account x.prefix x.base;
      before = before;
      old = number x.old;
      new = number x.new;
      debit = number x.debit;
      credit = number x.credit;
      behind = behind;
    }

-- a movement
abbrev pub movement_with : List ℕ → List ℕ → MovementFields → Movement
movement_with before behind x =
    record {
      account = account x.prefix x.base;
      other = account x.otherprefix x.otherbase;
      before = before;
      amount = x.amount;
      code = x.code;
      variable = x.variable;
      behind = behind;
    }

-- .. where they are kept
abbrev pub head_of : Kept → HeadFields → Head
head_of k x = head_with k.head k.head_end x

abbrev pub movement_of : Kept → MovementFields → Movement
movement_of k x = movement_with k.movement k.movement_end x

-- a head that was read, or where it was refused
abbrev pub told_head : Kept → Result HeadFields Flaw → Said Head
told_head k (Ok x) = got (head_of k x)
told_head k (Err x) = no (number_of x.0) x.1

-- a movement
abbrev pub told_movement : Kept → Result MovementFields Flaw → Said Movement
told_movement k (Ok x) = got (movement_of k x)
told_movement k (Err x) = no (number_of x.0) x.1

-- a record
abbrev pub told : Kept → Entry → Record
told k (entry.Head r) = head_is (told_head k r)
told k (entry.Movement r) = movement_is (told_movement k r)
told k entry.Nothing = no_record

-- numbers are no larger than their digits say
abbrev pub SmallHead : HeadFields → Type 0
SmallHead x = (x.old.size ≤ most14) × (x.new.size ≤ most14) × (x.debit.size ≤ most14) × (x.credit.size ≤ most14)

-- .. of a head that was read
abbrev pub SmallHeadRead : Result HeadFields Flaw → Type 0
SmallHeadRead (Ok x) = SmallHead x
SmallHeadRead (Err x) = Unit {0}

-- .. of a movement
abbrev pub SmallMovementRead : Result MovementFields Flaw → Type 0
SmallMovementRead (Ok x) = x.amount ≤ most12
SmallMovementRead (Err x) = Unit {0}

-- .. of what was found
abbrev pub Small : Entry → Type 0
Small (entry.Head r) = SmallHeadRead r
Small (entry.Movement r) = SmallMovementRead r
Small entry.Nothing = Unit {0}

-- the numbers of accounts have no more digits than their spelling
abbrev pub FitsHead : HeadFields → Type 0
FitsHead x = (x.prefix < 1000000) × (x.base < 10000000000)

-- .. of both accounts of a movement
abbrev pub FitsMovement : MovementFields → Type 0
FitsMovement x = (x.prefix < 1000000) × (x.base < 10000000000) × (x.otherprefix < 1000000) × (x.otherbase < 10000000000)

-- .. of a head that was read
abbrev pub FitsHeadRead : Result HeadFields Flaw → Type 0
FitsHeadRead (Ok x) = FitsHead x
FitsHeadRead (Err x) = Unit {0}

-- .. of a movement
abbrev pub FitsMovementRead : Result MovementFields Flaw → Type 0
FitsMovementRead (Ok x) = FitsMovement x
FitsMovementRead (Err x) = Unit {0}

-- .. of what was found
abbrev pub Fits : Entry → Type 0
Fits (entry.Head r) = FitsHeadRead r
Fits (entry.Movement r) = FitsMovementRead r
Fits entry.Nothing = Unit {0}
