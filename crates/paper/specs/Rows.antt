-- The rows of a batch in lent bytes: what they hold, and which rows reading leaves. Document 01, "What the library handles"; docs/ROWS.md. Assumes nothing.
use Rattle.std.specs.Prelude.{ℕ, suc, ◌+◌, Bool, List, [], ◌∷◌, ◌++◌, eqb, ltb, leb, length, take, drop}
use Rattle.base.specs.Pick.{pick}
use Rattle.sheet.specs.declared.Sheet.{Sheet}
use Rattle.paper.specs.Words.{word, blanks, rows_of}
use Rattle.paper.specs.Bytes.{null}
use Rattle.paper.specs.Accounts.{Account, account, is_nobody}
use Rattle.paper.specs.Batch.{Item, Thing, a_file, a_group, an_item, misnumbered, strange}
use Rattle.paper.specs.Lines.{Line}
use Rattle.paper.specs.Entries.{Entry, head, file, group, item, close_group, close_file, Places, Counted, got, no}
use Rattle.paper.specs.Spells.{Context, for_item, read_line}

-- a row is 24 words of 8 bytes
abbrev pub row_size : ℕ
row_size = 192

-- ---- lent rows, as writing takes them

-- all rows of the lent bytes
abbrev pub rows_in : List ℕ → List (List ℕ)
rows_in s = rows_of 24 s

-- The text whose place and length are words i and i + 1, in the lent bytes t. One that lies outside is read as a byte that is no text
-- byte, so that its field is refused.
unfoldable pub text_at : List ℕ → List ℕ → ℕ → List ℕ
text_at t r i = pick (leb (word r i + word r (suc i)) (length t)) (take (word r (suc i)) (drop (word r i) t)) (0 ∷ [])

-- an item's row, word by word (docs/ROWS.md)
abbrev pub item_in : List ℕ → List ℕ → Item
item_in t r =
    record {
      payer = account (word r 1) (word r 2);
      payee = account (word r 3) (word r 4);
      bank = word r 5;
      amount = word r 6;
      variable = word r 7;
      specific = word r 8;
      constant = word r 9;
      priority = word r 10;
      parts = text_at t r 11 ∷ text_at t r 13 ∷ text_at t r 15 ∷ text_at t r 17 ∷ [];
      name = text_at t r 19;
    }

-- A reference is the caller's own number of an item, below 2^32. No file carries it. Document 02, W-206.
unfoldable pub reference_proper : ℕ → Bool
reference_proper n = ltb n 4294967296

-- what a row says: word 0 is 1 for an account file, 2 for a group, 3 for an item, whose word 21 is its reference
unfoldable pub thing_in : List ℕ → List ℕ → Thing
thing_in t r =
    pick (eqb (word r 0) 1) (a_file (word r 1) (word r 2))
    (pick (eqb (word r 0) 2) (a_group (word r 1) (account (word r 2) (word r 3)))
    (pick (eqb (word r 0) 3) (pick (reference_proper (word r 21)) (an_item (item_in t r)) (misnumbered (item_in t r))) strange))

-- what rows say, in order
unfoldable pub things_in : List ℕ → List (List ℕ) → List Thing
things_in t [] = []
things_in t (r ∷ rs) = thing_in t r ∷ things_in t rs

-- ---- rows as reading leaves them; words that a kind does not use are 0

-- an account file's row: its kind and number
unfoldable pub file_row : ℕ → ℕ → List ℕ
file_row kind number = 1 ∷ kind ∷ number ∷ blanks 21

-- a group's row: its due date and payer
unfoldable pub group_row : ℕ → Account → List ℕ
group_row date payer = 2 ∷ date ∷ payer.prefix ∷ payer.base ∷ blanks 20

-- place and length of a text at an offset of the line that starts at `start`; an empty one has the place 0
unfoldable pub text_words : ℕ → ℕ → List ℕ → List ℕ
text_words start off t = pick (null t) (0 ∷ 0 ∷ []) ((start + off) ∷ length t ∷ [])

-- the same of several texts, each at its offset
unfoldable pub texts_words : ℕ → List ℕ → List (List ℕ) → List ℕ
texts_words start spots [] = []
texts_words start [] (t ∷ ts) = text_words start 0 t ++ texts_words start [] ts
texts_words start (off ∷ spots) (t ∷ ts) = text_words start off t ++ texts_words start spots ts

-- an item's row: its numbers, then places and lengths of parts and name; no file carries a reference, so that it is 0
unfoldable pub item_row : ℕ → List ℕ → Item → List ℕ
item_row start spots x =
    3 ∷ x.payer.prefix ∷ x.payer.base ∷ x.payee.prefix ∷ x.payee.base ∷ x.bank ∷ x.amount ∷ x.variable ∷ x.specific ∷ x.constant
    ∷ x.priority ∷ (texts_words start spots (x.parts ++ (x.name ∷ [])) ++ blanks 3)

-- where the texts of an item begin: its parts and its name
abbrev pub text_spots : Places → List ℕ
text_spots p = p.parts ++ (p.name ∷ [])

-- the row of a line that starts at `start`, if it has one
unfoldable pub entry_row : ℕ → Places → Entry → List (List ℕ)
entry_row start q (head h) = []
entry_row start q (file k n) = file_row k n ∷ []
entry_row start q (group p t d) = group_row d p ∷ []
entry_row start q (item x) = item_row start (text_spots q) x ∷ []
entry_row start q close_group = []
entry_row start q close_file = []

-- a line that was refused has none
unfoldable pub line_row : ℕ → Counted → List (List ℕ)
line_row start (got t) = entry_row start t.places t.entry
line_row start (no n off) = []

-- behind a group's line its items are read as that group's
unfoldable pub single_after : Bool → Entry → Bool
single_after b (head h) = b
single_after b (file k n) = b
single_after b (group p t d) = is_nobody p
single_after b (item x) = b
single_after b close_group = b
single_after b close_file = b

-- a line that was refused changes nothing
unfoldable pub single_behind : Bool → Counted → Bool
single_behind b (got t) = single_after b t.entry
single_behind b (no n off) = b

-- The context for lines that are accepted already: any number, and no kind or date. What a line says in its own context it says in this one,
-- but for a group's warning of a past day, which may be missing here.
abbrev pub accepted : Bool → Context
accepted single = for_item 0 0 single

-- the rows of an accepted file's lines, in order
unfoldable pub lines_rows : Sheet → ℕ → Bool → List Line → List (List ℕ)
lines_rows sh today single [] = []
lines_rows sh today single (t ∷ ts) =
    line_row t.start (read_line sh today (accepted single) t.bytes)
    ++ lines_rows sh today (single_behind single (read_line sh today (accepted single) t.bytes)) ts
