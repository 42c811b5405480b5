-- The one file of statements, and what a file has besides: a minus before zero. Document 02, W-204. Assumes nothing.
use Rattle.std.specs.Prelude.{ℕ, ◌+◌, Bool, List, [], ◌∷◌, ◌++◌, eqb}
use Rattle.base.specs.Pick.{pick}
use Rattle.base.specs.Seek.{all, starts}
use Rattle.base.specs.Put.{put}
use Rattle.paper.specs.Bytes.{bytes}
use Rattle.gpc.specs.Parts.{slice, pieces}
use Rattle.gpc.specs.Signed.{balance_plus, turnover_plus}
use Rattle.gpc.specs.Records.{record_size, spells}
use Rattle.gpc.specs.Statements.{Statement, things}

-- the records of statements, in order
unfoldable pub canon : List Statement → List ℕ
canon ss = spells (things ss)

-- ---- a file with no minus before zero, otherwise as it is

-- the digit 0
unfoldable pub is_nought : ℕ → Bool
is_nought x = eqb x 48

-- where fourteen zeros stand, the sign behind them is the one that says plus
unfoldable pub plain_sign : ℕ → ℕ → List ℕ → List ℕ
plain_sign plus at s = pick (all is_nought (slice at 14 s)) (put s (at + 14) (plus ∷ [])) s

-- of a record: a head has two balances and two turnovers, a movement has no sign
unfoldable pub plain_record : List ℕ → List ℕ
plain_record s =
    pick (starts (bytes "074") s)
    (plain_sign turnover_plus 90 (plain_sign turnover_plus 75 (plain_sign balance_plus 60 (plain_sign balance_plus 45 s))))
    s

-- of several
unfoldable pub plain_records : List (List ℕ) → List ℕ
plain_records [] = []
plain_records (s ∷ ss) = plain_record s ++ plain_records ss

-- of a file
unfoldable pub plain : List ℕ → List ℕ
plain f = plain_records (pieces record_size f)

-- ---- the kept bytes of a file's records, in their order

-- of a record: those of a head, or of a movement
unfoldable pub kept_in : List ℕ → List ℕ
kept_in s = pick (starts (bytes "074") s) (slice 19 26 s ++ slice 105 23 s) (slice 35 13 s ++ slice 71 57 s)

-- of several
unfoldable pub kepts_in : List (List ℕ) → List (List ℕ)
kepts_in [] = []
kepts_in (s ∷ ss) = kept_in s ∷ kepts_in ss

-- of a file, record by record
unfoldable pub kept : List ℕ → List (List ℕ)
kept f = kepts_in (pieces record_size f)
