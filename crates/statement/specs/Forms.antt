-- Records of a file and rows of lent bytes are pieces of one size, each read by itself and put as another: what both have in common.
-- Document 02, W-204. Assumes nothing.
use Rattle.std.specs.Prelude.{ℕ, ◌+◌, ◌*◌, ◌≤◌, ◌≡◌, Option, List, [], ◌∷◌, ◌++◌, length, drop}
use Rattle.base.specs.Put.{Wrote}
use Rattle.gpc.specs.Parts.{pieces}
use Rattle.gpc.specs.Records.{Thing, Record, said, saids, read_record, spell}
use Rattle.gpc.specs.StatementRows.{thing_in, tested, thing_row}
use Rattle.gpc.specs.Statements.{Spots as Places, Stage, judge, judge_on}
use Rattle.gpcback.specs.Proper.{AllProper}
use Rattle.statement.specs.declared.run.Open.{Open}
use Rattle.statement.specs.run.Follows.{Going, outcome}

-- a form: how many bytes a piece has, what it is read as, how a thing is put in the other form, and in how many bytes
pub record Form : Type 0 where
  pub size : ℕ
  pub read : List ℕ → Record
  pub put : Thing → List ℕ
  pub length : ℕ

-- records, which are put as rows
abbrev pub in_file : Form
in_file = record { size = 130; read = read_record; put = thing_row; length = 136 }

-- rows, which are put as records
abbrev pub in_rows : Form
in_rows = record { size = 136; read = λ r. tested (thing_in r); put = spell; length = 130 }

-- what several pieces are read as
unfoldable pub reads : Form → List (List ℕ) → List Record
reads F [] = []
reads F (s ∷ ss) = F.read s ∷ reads F ss

-- what bytes are read as
unfoldable pub read_all : Form → List ℕ → List Record
read_all F s = reads F (pieces F.size s)

-- what several things are put as
unfoldable pub puts : Form → List Thing → List ℕ
puts F [] = []
puts F (t ∷ ts) = F.put t ++ puts F ts

-- the judging of s has passed k pieces, up to `at`, and stands at a stage from which all comes to the same
pub record Passed (F : Form) (p : Places) (s : List ℕ) (x : Option Open) (at k : ℕ) : Type 0 where
  pub inside : at ≤ length s
  pub place : at ≡ F.size * k
  pub stage : Stage
  pub going : Going x k stage
  pub same : outcome (judge p (read_all F s)) ≡ outcome (judge_on p k stage (read_all F (drop at s)))
  pub count : length (read_all F s) ≡ k + length (read_all F (drop at s))

-- the piece s was put at `at`: as what it is read as
pub record Puts (F : Form) (o : List ℕ) (at : ℕ) (s o' : List ℕ) (r : ℕ) : Type 0 where
  pub by : (t : Thing) → F.read s ≡ said t → Wrote o at (F.put t) o' r

-- s can be put into n bytes: all its pieces are read as things that can be written
pub record Putable (F : Form) (s : List ℕ) (n : ℕ) : Type 0 where
  pub things : List Thing
  pub read : read_all F s ≡ saids things
  pub proper : AllProper things
  pub room : F.length * length things ≤ n

-- all of s was put in front of the old bytes
pub record PutAll (F : Form) (s o o' : List ℕ) : Type 0 where
  pub by : (ts : List Thing) → read_all F s ≡ saids ts → o' ≡ puts F ts ++ drop (F.length * length ts) o

-- the putting has come to `at` of s, and to `next` of the output
pub record Putting (F : Form) (s o : List ℕ) (at next : ℕ) (o' : List ℕ) : Type 0 where
  pub inside : at ≤ length s
  pub done : List Thing
  pub rest : List Thing
  pub all : read_all F s ≡ saids (done ++ rest)
  pub left : read_all F (drop at s) ≡ saids rest
  pub proper : AllProper rest
  pub wrote : Wrote o 0 (puts F done) o' next
  pub place : next ≡ F.length * length done
  pub room : next + F.length * length rest ≤ length o
