-- The first rule that records break, declared: refusals 50 to 53. Document 02, W-204. Assumes nothing.
use Rattle.std.specs.Prelude.{ℕ, ◌≡◌, List, [], ◌∷◌, ◌++◌, length}
use Rattle.paper.specs.Entries.{Said, no}
use Rattle.gpc.specs.Records.{Head, Movement, Thing, a_head, Record, head_is, movement_is, no_record, saids}
use Rattle.gpc.specs.Statements.{Statement, statement, things, movement_things, Agrees, Spots, closed}
use Rattle.gpc.specs.Spelled.{AllAgree}

-- the statement that is not over yet, if there is one
pub data Open : Type 0 where
  none : Open
  begun : Head → List Movement → Open

-- its things
unfoldable pub open_things : Open → List Thing
open_things none = []
open_things (begun h ms) = a_head h ∷ movement_things ms []

-- it is over where no record follows, or a head
pub data Over : List Record → Type 0 where
  ends : Over []
  goes : {x : Said Head} {rs : List Record} → Over (head_is x ∷ rs)

-- there is none, or its sums agree
abbrev pub Settled : Open → Type 0
Settled none = Unit {0}
Settled (begun h ms) = Agrees (statement h ms)

-- With n records before: which rule is broken first by the records that follow. `h` is how many of the n stand before the open statement's head.
pub data Broken (p : Spots) (h n : ℕ) : Open → List Record → ℕ → ℕ → ℕ → Type 0 where
  -- 50: a record is missing, or is none
  missing : Broken p h n none [] 50 n 0
  strange : {o : Open} {rs : List Record} → Broken p h n o (no_record ∷ rs) 50 n 0
  -- 50: a movement before any head
  early : {x : Said Movement} {rs : List Record} → Broken p h n none (movement_is x ∷ rs) 50 n 0
  -- 51: a field of a movement
  movement : {g : Head} {ms : List Movement} {m off : ℕ} {rs : List Record} → Broken p h n (begun g ms) (movement_is (no m off) ∷ rs) m n off
  -- 52, 53: the open statement is over, and its sums do not agree
  sums : {g : Head} {ms : List Movement} {m off : ℕ} {rs : List Record} → Over rs → closed p g ms ≡ no m off → Broken p h n (begun g ms) rs m h off
  -- 51: a field of a head, whose forerunner's sums agree
  head : {o : Open} {m off : ℕ} {rs : List Record} → Settled o → Broken p h n o (head_is (no m off) ∷ rs) m n off

-- The refusal with number m, behind k records, at the place `off`, is for the first fault: the records before it are read as statements
-- whose sums agree and perhaps one that is open, and what follows them breaks that rule.
pub record FirstFault (p : Spots) (rs : List Record) (m k off : ℕ) : Type 0 where
  pub done : List Statement
  pub last : Open
  pub after : List Record
  pub split : rs ≡ saids (things done ++ open_things last) ++ after
  pub lawful : AllAgree done
  -- no statement is open only before the first head
  pub first : last ≡ none → done ≡ []
  pub broken : Broken p (length (things done)) (length (things done ++ open_things last)) last after m k off
