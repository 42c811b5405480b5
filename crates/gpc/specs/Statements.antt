-- Statements: a head with its movements, one or more of them in a file; and the order in which their rules are tested, record by record.
-- Document 02, W-204. Assumes nothing.
use Rattle.std.specs.Prelude.{ℕ, zero, suc, ◌≡◌, true, List, [], ◌∷◌, ◌++◌}
use Rattle.base.specs.Pick.{pick}
use Rattle.paper.specs.Entries.{Said, got, no}
use Rattle.gpc.specs.Turnovers.{Moved, moved, is_debit, is_credit, balanced}
use Rattle.gpc.specs.Records.{Head, Movement, Thing, a_head, a_movement, Record, head_is, movement_is, no_record}

-- one 074 and its 075 records, in their order; it may have none
pub record Statement : Type 0 where
  pub head : Head
  pub movements : List Movement

-- of these two
abbrev pub statement : Head → List Movement → Statement
statement h ms = record { head = h; movements = ms }

-- ---- as one list: a head, then its movements

-- movements, in front of what follows
unfoldable pub movement_things : List Movement → List Thing → List Thing
movement_things [] r = r
movement_things (m ∷ ms) r = a_movement m ∷ movement_things ms r

-- statements, each head in front of its movements
unfoldable pub things : List Statement → List Thing
things [] = []
things (s ∷ ss) = a_head s.head ∷ movement_things s.movements (things ss)

-- ---- the sums

-- codes and amounts of movements
unfoldable pub moves_of : List Movement → List Moved
moves_of [] = []
moves_of (m ∷ ms) = moved m.code m.amount ∷ moves_of ms

-- a head's turnovers are those of its movements, and the new balance is old − debit + credit
pub record Agrees (s : Statement) : Type 0 where
  pub debit : is_debit (moves_of s.movements) s.head.debit ≡ true
  pub credit : is_credit (moves_of s.movements) s.head.credit ≡ true
  pub new : balanced s.head.old s.head.new s.head.debit s.head.credit ≡ true

-- where a head has the fields that sums are refused at
pub record Spots : Type 0 where
  pub new : ℕ
  pub debit : ℕ
  pub credit : ℕ

-- in a record: the first digit of each
abbrev pub record_spots : Spots
record_spots = record { new = 60; debit = 75; credit = 90 }

-- in a row: the word of each
abbrev pub row_spots : Spots
row_spots = record { new = 4; debit = 5; credit = 6 }

-- a statement that is over: 52 a turnover differs, debit first; 53 the new balance differs
unfoldable pub closed : Spots → Head → List Movement → Said Statement
closed p h ms =
    pick (is_debit (moves_of ms) h.debit)
    (pick (is_credit (moves_of ms) h.credit)
    (pick (balanced h.old h.new h.debit h.credit) (got (statement h ms)) (no 53 p.new))
    (no 52 p.credit))
    (no 52 p.debit)

-- ---- record by record

-- the statements; or a refusal: its number, how many records stand before the refused one, and the place in that one
pub data Judged : Type 0 where
  accepted : List Statement → Judged
  refused : ℕ → ℕ → ℕ → Judged

-- what was read goes on, a refusal is that of the record behind k others
unfoldable pub on_said : {A : Type 0} → ℕ → Said A → (A → Judged) → Judged
on_said k (got a) f = f a
on_said k (no n off) f = refused n k off

-- one statement more, in front
unfoldable pub with : Statement → Judged → Judged
with s (accepted ss) = accepted (s ∷ ss)
with s (refused n k off) = refused n k off

-- before the first record; or within a statement: how many records stand before its head, its head, its movements so far
pub data Stage : Type 0 where
  top : Stage
  within : ℕ → Head → List Movement → Stage

-- The records behind k others. 50: a record is missing, is none, or is a movement before any head. When the next is known to be a head, or
-- there is none, the statement above is over: its sums are tested before the head's fields.
unfoldable pub judge_on : Spots → ℕ → Stage → List Record → Judged
judge_on p k top [] = refused 50 k 0
judge_on p k top (no_record ∷ rs) = refused 50 k 0
judge_on p k top (movement_is x ∷ rs) = refused 50 k 0
judge_on p k top (head_is x ∷ rs) = on_said k x λ h. judge_on p (suc k) (within k h []) rs
judge_on p k (within j h ms) [] = on_said j (closed p h ms) λ s. accepted (s ∷ [])
judge_on p k (within j h ms) (no_record ∷ rs) = refused 50 k 0
judge_on p k (within j h ms) (movement_is x ∷ rs) = on_said k x λ m. judge_on p (suc k) (within j h (ms ++ (m ∷ []))) rs
judge_on p k (within j h ms) (head_is x ∷ rs) =
    on_said j (closed p h ms) λ s. with s (on_said k x λ g. judge_on p (suc k) (within k g []) rs)

-- from the first record on
unfoldable pub judge : Spots → List Record → Judged
judge p rs = judge_on p zero top rs
