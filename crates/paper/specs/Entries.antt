-- What one line of a file may say, and the ways to read a line's fields. Document 01, "Lines". Assumes nothing.
use Rattle.std.specs.Prelude.{ℕ, ◌+◌, true, List, [], ◌∷◌, ltb, length, take, drop}
use Rattle.base.specs.Pick.{pick}
use Rattle.base.specs.Seek.{starts, seek}
use Rattle.paper.specs.Read.{Field, value, fault}
use Rattle.paper.specs.Warnings.{Notice}
use Rattle.paper.specs.Bytes.{bytes, space, field_of, rest_of}
use Rattle.paper.specs.Accounts.{Account}
use Rattle.paper.specs.Batch.{Item, Header}

-- what a line says: the header; kind and number of an account file; payer, total and due date of a group; an item; that a group ends; that
-- an account file ends
pub data Entry : Type 0 where
  head : Header → Entry
  file : ℕ → ℕ → Entry
  group : Account → ℕ → ℕ → Entry
  item : Item → Entry
  close_group : Entry
  close_file : Entry

-- an entry taken apart: what is made of a header, an account file, a group, an item, a group's end, an account file's end
module _ {A : Type 0} where
  unfoldable pub on_entry : Entry → (Header → A) → (ℕ → ℕ → A) → (Account → ℕ → ℕ → A) → (Item → A) → A → A → A
  on_entry (head h) a b c d e f = a h
  on_entry (file n m) a b c d e f = b n m
  on_entry (group p t u) a b c d e f = c p t u
  on_entry (item x) a b c d e f = d x
  on_entry close_group a b c d e f = e
  on_entry close_file a b c d e f = f

  -- a header goes on (k), any other entry answers z
  unfoldable pub on_head : Entry → (Header → A) → A → A
  on_head x k z = on_entry x k (λ _ _. z) (λ _ _ _. z) (λ _. z) z z

  -- an account file goes on
  unfoldable pub on_file : Entry → (ℕ → ℕ → A) → A → A
  on_file x k z = on_entry x (λ _. z) k (λ _ _ _. z) (λ _. z) z z

  -- a group goes on, or its account file's end (c)
  unfoldable pub on_group : Entry → (Account → ℕ → ℕ → A) → A → A → A
  on_group x k c z = on_entry x (λ _. z) (λ _ _. z) k (λ _. z) z c

  -- an item goes on, or its group's end (c)
  unfoldable pub on_item : Entry → (Item → A) → A → A → A
  on_item x k c z = on_entry x (λ _. z) (λ _ _. z) (λ _ _ _. z) k c z

-- Where in the line things begin that the answer has to place: a group's total; an item's four parts and its name. What a line does not
-- have is at 0.
pub record Places : Type 0 where
  pub total : ℕ
  pub parts : List ℕ
  pub name : ℕ

-- a line with nothing to place
abbrev pub nowhere : Places
nowhere = record { total = 0; parts = []; name = 0 }

-- a group's line
abbrev pub total_at : ℕ → Places
total_at at = record { total = at; parts = []; name = 0 }

-- What a line says: its entry, what it warns of, and these places. Warnings are a list, from left to right, or their count.
pub record Saying (W : Type 0) : Type 0 where
  pub entry : Entry
  pub warnings : W
  pub places : Places

-- these three
abbrev pub saying : {W : Type 0} → Entry → W → Places → Saying W
saying e w p = record { entry = e; warnings = w; places = p }

-- a line that was read as something; or the number of the refusal and its offset in the line
pub data Said (A : Type 0) : Type 0 where
  got : A → Said A
  no : ℕ → ℕ → Said A

-- what a line says with its warnings listed
abbrev pub Listed : Type 0
Listed = Said (Saying (List Notice))

-- .. with its warnings counted
abbrev pub Counted : Type 0
Counted = Said (Saying ℕ)

-- the line says these three
abbrev pub said : {W : Type 0} → Entry → W → Places → Said (Saying W)
said e w p = got (saying e w p)

-- a line that warns of nothing, with nothing to place
abbrev pub plain : Entry → Listed
plain e = said e [] nowhere

-- "Warnings are counted": how many there are is the list's length
unfoldable pub counted : Listed → Counted
counted (got x) = said x.entry (length x.warnings) x.places
counted (no n off) = no n off

-- ---- a line is known by its start

-- "Lines": the first line, an account file, a group, an item, the end of a group, the end of an account file
pub data Kind : Type 0 where
  head_line file_line group_line item_line group_end file_end : Kind

-- `UHL1`, `1 `, `2 `, `3 ` or `3+`, `5 ` or `5+`; any other is an item
unfoldable pub kind_of : List ℕ → Kind
kind_of s =
    pick (starts (bytes "UHL1") s) head_line
    (pick (starts (bytes "1 ") s) file_line
    (pick (starts (bytes "2 ") s) group_line
    (pick (pick (starts (bytes "3 ") s) true (starts (bytes "3+") s)) group_end
    (pick (pick (starts (bytes "5 ") s) true (starts (bytes "5+") s)) file_end
    item_line))))

-- ---- fields from left to right: `at` is the offset in the line, s the rest of the line from there

-- a field that was read goes on, one that was not is refused at its start
unfoldable pub on_field : {A B : Type 0} → ℕ → Field A → (A → Said B) → Said B
on_field at (value v) k = k v
on_field at (fault n) k = no n at

-- a field that runs to the next space or the line's end
unfoldable pub field : {A B : Type 0} → (List ℕ → Field A) → ℕ → List ℕ → (A → ℕ → List ℕ → Said B) → Said B
field read at s k = on_field at (read (field_of s)) λ v. k v (at + seek space s) (rest_of s)

-- a field of n bytes, by place; a line that ends before or inside it is refused at the field's start
unfoldable pub place : {A B : Type 0} → ℕ → (List ℕ → Field A) → ℕ → List ℕ → (A → ℕ → List ℕ → Said B) → Said B
place n read at s k = pick (ltb (length s) n) (no 4 at) (on_field at (read (take n s)) λ v. k v (at + n) (drop n s))

-- the rest of the line, whole
abbrev pub to_end : {A B : Type 0} → (List ℕ → Field A) → ℕ → List ℕ → (A → Said B) → Said B
to_end read at s k = on_field at (read s) k

-- the space that divides two fields; a missing one is 4 at the line's end (what a field leaves of its line is nothing, or begins with a space)
unfoldable pub gap : {B : Type 0} → ℕ → List ℕ → (ℕ → List ℕ → Said B) → Said B
gap at [] k = no 4 at
gap at (x ∷ s) k = k (at + 1) s

-- nothing follows; a divider too many is 4 at itself
unfoldable pub line_end : {B : Type 0} → ℕ → List ℕ → Said B → Said B
line_end at [] r = r
line_end at (x ∷ s) r = no 4 at
