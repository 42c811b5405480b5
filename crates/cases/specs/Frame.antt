-- The frame of the examples: a short file of each sheet, in which one line is changed, and how to say what is answered then. Assumes nothing.
use Rattle.std.specs.Prelude.{ℕ, zero, suc, ◌+◌, ◌-◌, ◌≡◌, List, [], ◌∷◌, ◌++◌, length, take, set}
use Prim.Native.String.{String}
use Rattle.base.specs.Pick.{pick}
use Rattle.sheet.specs.declared.Sheet.{Sheet}
use Rattle.paper.specs.Bytes.{bytes}
use Rattle.paper.specs.Numerals.{fixed}
use Rattle.paper.specs.Accounts.{Account, account, nobody}
use Rattle.paper.specs.Batch.{Item, Batch, Header, no_header, Thing, a_file, a_group, an_item}
use Rattle.paper.specs.Judge.{Refused, Accepted}
use Rattle.cases.specs.Asked.{judged}

-- ---- the frame

-- the tail of an item with no symbol and no text: on S two spaces
abbrev pub no_tail : Sheet → List ℕ
no_tail sh = pick sh.fixedtail (bytes "  ") []

-- its six lines
abbrev pub frame : Sheet → List (List ℕ)
frame sh =
    pick sh.header (bytes "UHL1010118RYBNIKY             1234567890000900000000000000") (bytes "UHL1")
    ∷ (bytes "1 1501 000000 " ++ fixed 4 sh.bank)
    ∷ bytes "2 19-19 5001 020118"
    ∷ (bytes "705 5001 42 03000558" ++ no_tail sh)
    ∷ bytes "3 +"
    ∷ bytes "5 +"
    ∷ []

-- the same with a single group: the payer's account stands in the item's line
abbrev pub single_frame : Sheet → List (List ℕ)
single_frame sh =
    set (set (frame sh) 2 (pick sh.emptypayer (bytes "2  5001 020118") (bytes "2 5001 020118"))) 3
    (bytes "19-19 705 5001 42 03000558" ++ no_tail sh)

-- lines as bytes, each with this end
abbrev pub ended_by : String → List (List ℕ) → List ℕ
ended_by e [] = []
ended_by e (t ∷ ts) = t ++ (bytes e ++ ended_by e ts)

-- where line k, from 0 on, starts, each line before it having an end of one byte
abbrev pub start_of : ℕ → List (List ℕ) → ℕ
start_of k [] = 0
start_of zero (t ∷ ts) = 0
start_of (suc k) (t ∷ ts) = length t + 1 + start_of k ts

-- ---- a file on a sheet, and the line of it that is spoken of: its number, and where it starts
pub record Case : Type 0 where
  pub sheet : Sheet
  pub file : List ℕ
  pub line : ℕ
  pub start : ℕ

-- line k of these, from 0 on, is s
abbrev pub changed : Sheet → List (List ℕ) → ℕ → String → Case
changed sh ls k s = record { sheet = sh; file = ended_by "\n" (set ls k (bytes s)); line = suc k; start = start_of k ls }

-- the frame with this first line
abbrev pub first : Sheet → String → Case
first sh s = changed sh (frame sh) 0 s

-- .. with this line for the account file
abbrev pub opening : Sheet → String → Case
opening sh s = changed sh (frame sh) 1 s

-- .. for the group
abbrev pub group : Sheet → String → Case
group sh s = changed sh (frame sh) 2 s

-- .. for the item
abbrev pub item : Sheet → String → Case
item sh s = changed sh (frame sh) 3 s

-- .. for the group's end
abbrev pub closing : Sheet → String → Case
closing sh s = changed sh (frame sh) 4 s

-- .. for the account file's end
abbrev pub ending : Sheet → String → Case
ending sh s = changed sh (frame sh) 5 s

-- the frame, and behind it these bytes
abbrev pub behind : Sheet → String → Case
behind sh s = record { sheet = sh; file = ended_by "\n" (frame sh) ++ bytes s; line = 7; start = start_of 6 (frame sh) }

-- the frame of a single group, with this line for the group
abbrev pub single : Sheet → String → Case
single sh s = changed sh (single_frame sh) 2 s

-- .. with this line for its item
abbrev pub payment : Sheet → String → Case
payment sh s = changed sh (single_frame sh) 3 s

-- the same file without its last n bytes
abbrev pub without : ℕ → Case → Case
without n c = record { sheet = c.sheet; file = take (length c.file - n) c.file; line = c.line; start = c.start }

-- ---- what the files say

-- a header: its day, name, client number, interval start and end
abbrev pub headed : ℕ → String → ℕ → ℕ → ℕ → Header
headed date name client from to = record { date = date; name = bytes name; client = client; from = from; to = to }

-- the header of the first line
abbrev pub header : Sheet → Header
header sh = pick sh.header (headed 20180101 "RYBNIKY             " 1234567890 0 900) no_header

-- the item, with this payer, payee bank, amount, specific symbol, priority, these parts and this name
abbrev pub paid : Account → ℕ → ℕ → ℕ → ℕ → List (List ℕ) → List ℕ → Item
paid payer bank amount specific priority parts name =
    record {
      payer = payer;
      payee = account 0 705;
      bank = bank;
      amount = amount;
      variable = 42;
      specific = specific;
      constant = 558;
      priority = priority;
      parts = parts;
      name = name;
    }

-- n parts, the missing ones empty
abbrev pub parts : ℕ → List String → List (List ℕ)
parts zero ps = []
parts (suc n) [] = [] ∷ parts n []
parts (suc n) (p ∷ ps) = bytes p ∷ parts n ps

-- a batch of one account file, with its kind and number, and of one group, with its day, payer and items
abbrev pub batch : ℕ → ℕ → ℕ → Account → List Item → Batch
batch kind number date payer items =
    record { kind = kind; number = number; groups = record { date = date; payer = payer; items = items } ∷ [] } ∷ []

-- the frame's item
abbrev pub plain_item : Item
plain_item = paid nobody 300 5001 0 5 (parts 4 []) []

-- the frame's batch
abbrev pub plain : Batch
plain = batch 1501 0 20180102 (account 19 19) (plain_item ∷ [])

-- .. of another kind and number
abbrev pub filed : ℕ → ℕ → Batch
filed kind number = batch kind number 20180102 (account 19 19) (plain_item ∷ [])

-- .. due on another day
abbrev pub due_on : ℕ → Batch
due_on date = batch 1501 0 date (account 19 19) (plain_item ∷ [])

-- .. of another priority
abbrev pub ranked : ℕ → Batch
ranked p = batch 1501 0 20180102 (account 19 19) (paid nobody 300 5001 0 p (parts 4 []) [] ∷ [])

-- .. with a specific symbol, message parts and a name
abbrev pub texts : ℕ → List String → String → Batch
texts specific ps name = batch 1501 0 20180102 (account 19 19) (paid nobody 300 5001 specific 5 (parts 4 ps) (bytes name) ∷ [])

-- the frame's rows: an account file with this kind and number, a group with this day and payer, an item
abbrev pub rows : ℕ → ℕ → ℕ → Account → Item → List Thing
rows kind number date payer x = a_file kind number ∷ a_group date payer ∷ an_item x ∷ []

-- .. of a single group
abbrev pub alone : Batch
alone = batch 1501 0 20180102 nobody (paid (account 19 19) 300 5001 0 5 (parts 4 []) [] ∷ [])

-- ---- what is answered
infix 10 ◌gives◌at◌
infix 10 ◌reads◌warned◌
infix 10 ◌heads◌
-- the file is refused with the number n, at +b of the line spoken of
abbrev pub ◌gives◌at◌ : Case → ℕ → ℕ → Type 0
c gives n at b = judged c.sheet c.file ≡ Refused n c.line (c.start + b)

-- the file is accepted as the batch b, with w warnings
abbrev pub ◌reads◌warned◌ : Case → Batch → ℕ → Type 0
c reads b warned w = judged c.sheet c.file ≡ Accepted (header c.sheet) b w

-- the file is accepted as the frame's batch, with this header
abbrev pub ◌heads◌ : Case → Header → Type 0
c heads h = judged c.sheet c.file ≡ Accepted h plain 0
