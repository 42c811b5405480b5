-- What the two words of a turnover stand for. Document 02, W-204. Assumes nothing.
use Rattle.std.specs.Prelude.{◌≡◌, ℕ, ◌+◌, ◌*◌, ◌<◌, ◌≤◌, List, [], ◌∷◌}
use Rattle.paper.specs.Batch.{most14}
use Rattle.gpc.specs.Turnovers.{Moved, most12, total}
use Rattle.turnover.specs.declared.Turn.{Turn}
use Rattle.turnover.specs.declared.Turns.{Turns}

-- t is `up - down`: `high` counts from the middle, so that it does not fall below zero
pub record Stands (t : Turn) (up down : ℕ) : Type 0 where
  pub small : t.low ≤ most14
  pub same : t.high * 100000000000000 + t.low + down ≡ 9223372036854775808 * 100000000000000 + up

-- `high` may still go one up and one down. This holds of every turnover of a file's movements: `Laws.room`
pub record Room (t : Turn) : Type 0 where
  pub small : t.low ≤ most14
  pub above : 0 < t.high
  pub below : t.high < 18446744073709551615

-- r is t with an amount more
pub record Raised (t : Turn) (a : ℕ) (r : Turn) : Type 0 where
  pub by : (u d : ℕ) → Stands t u d → Stands r (u + a) d

-- .. with an amount less
pub record Lowered (t : Turn) (a : ℕ) (r : Turn) : Type 0 where
  pub by : (u d : ℕ) → Stands t u d → Stands r u (d + a)

-- r is t with a movement besides, where t is the sum of the code `plus` less that of the code `less`
pub record Moves (plus less : ℕ) (m : Moved) (t r : Turn) : Type 0 where
  pub by : (ms : List Moved) → Stands t (total plus ms) (total less ms) → Stands r (total plus (m ∷ ms)) (total less (m ∷ ms))

-- amounts of at most twelve digits
pub data Small : List Moved → Type 0 where
  none : Small []
  one : {m : Moved} {ms : List Moved} → m.amount ≤ most12 → Small ms → Small (m ∷ ms)

-- both turnovers of these movements: code 1 less code 4, code 2 less code 5
pub record Counts (t : Turns) (ms : List Moved) : Type 0 where
  pub debits : Stands t.debit (total 1 ms) (total 4 ms)
  pub credits : Stands t.credit (total 2 ms) (total 5 ms)
  pub amounts : Small ms

-- both have room
pub record Roomy (t : Turns) : Type 0 where
  pub debit : Room t.debit
  pub credit : Room t.credit
