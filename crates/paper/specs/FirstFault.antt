-- The first fault of a file, declared: the lines before it are lawful, and it breaks a rule. Document 01, "Numbers returned": each number
-- is given exactly when its rule is broken, and the first in the testing order is given. Assumes nothing.
use Rattle.std.specs.Prelude.{ℕ, suc, ◌+◌, ◌<◌, ◌≡◌, true, false, List, [], ◌∷◌, length}
use Rattle.sheet.specs.declared.Sheet.{Sheet}
use Rattle.paper.specs.Bytes.{null}
use Rattle.paper.specs.Accounts.{Account}
use Rattle.paper.specs.Batch.{Item, Header, sum}
use Rattle.paper.specs.Lines.{Line, lines_of}
use Rattle.paper.specs.Entries.{Entry, head, file, group, item, close_group, close_file, Places, said, no, kind_of}
use Rattle.paper.specs.Spells.{Reads, read_line}
use Rattle.paper.specs.Judge.{Answer, Refused, rev_on, Between, InFile, InGroup, State, at_first, at_file, at_group, at_item, context_of, is_due, is_full, total_broken, begun, file_opened, group_opened, item_added, items_of, group_closed, file_closed}

module _ (sh : Sheet) (today : ℕ) where
  -- the line t, read where st is reached, says the entry, with v warnings
  abbrev pub Follows : Line → State → Entry → ℕ → Type 0
  Follows t st e v = Reads sh today t.bytes (context_of st) e v

  -- ---- lines that break no rule, last one first, and what they leave unfinished
  pub data Lawful : List Line → State → Type 0 where
    nothing : Lawful [] at_first
    header : {ts : List Line} {t : Line} {h : Header} {v : ℕ}
        → Lawful ts at_first
        → Follows t at_first (head h) v
        → Lawful (t ∷ ts) (at_file (begun h v))
    opens : {ts : List Line} {t : Line} {x : Between} {kind number v : ℕ}
        → Lawful ts (at_file x)
        → length x.files < 1000
        → Follows t (at_file x) (file kind number) v
        → Lawful (t ∷ ts) (at_group (file_opened x kind number v))
    begins : {ts : List Line} {t : Line} {x : InFile} {payer : Account} {total date v : ℕ} {p : Places}
        → Lawful ts (at_group x)
        → read_line sh today (context_of (at_group x)) t.bytes ≡ said (group payer total date) v p
        → Lawful (t ∷ ts)
        (at_item (group_opened x (record { payer = payer; date = date; total = total; line = suc (length ts); byte = t.start + p.total }) v))
    more : {ts : List Line} {t : Line} {x : InGroup} {v : ℕ} {i : Item}
        → Lawful ts (at_item x)
        → is_full sh (at_item x) (kind_of t.bytes) ≡ false
        → Follows t (at_item x) (item i) v
        → Lawful (t ∷ ts) (at_item (item_added x i v))
    closes : {ts : List Line} {t : Line} {x : InGroup} {v : ℕ}
        → Lawful ts (at_item x)
        → null x.items ≡ false
        → Follows t (at_item x) close_group v
        → total_broken sh.strict x.head.total (sum (items_of x)) ≡ false
        → Lawful (t ∷ ts) (at_group (group_closed x v))
    finishes : {ts : List Line} {t : Line} {x : InFile} {v : ℕ}
        → Lawful ts (at_group x)
        → null x.groups ≡ false
        → Follows t (at_group x) close_file v
        → Lawful (t ∷ ts) (at_file (file_closed x v))

  -- ---- the rules that a line may break; size is the file's length, k the number of the first of the lines
  pub data Broken (size k : ℕ) : State → List Line → Answer → Type 0 where
    -- 3: the file ends early, that is, not behind a closed account file
    ends_first : Broken size k at_first [] (Refused 3 k size)
    ends_none : {x : Between} → null x.files ≡ true → Broken size k (at_file x) [] (Refused 3 k size)
    ends_file : {x : InFile} → Broken size k (at_group x) [] (Refused 3 k size)
    ends_group : {x : InGroup} → Broken size k (at_item x) [] (Refused 3 k size)
    -- 3: another kind of line is due, or lines follow
    not-due : {st : State} {t : Line} {ts : List Line} → is_due st (kind_of t.bytes) ≡ false → Broken size k st (t ∷ ts) (Refused 3 k t.start)
    -- 15: one too many
    full : {st : State} {t : Line} {ts : List Line}
        → is_due st (kind_of t.bytes) ≡ true
        → is_full sh st (kind_of t.bytes) ≡ true
        → Broken size k st (t ∷ ts) (Refused 15 k t.start)
    -- 4 to 9 and 11 to 14: the line's own first fault, from its left
    in_line : {st : State} {t : Line} {ts : List Line} {n off : ℕ}
        → is_due st (kind_of t.bytes) ≡ true
        → is_full sh st (kind_of t.bytes) ≡ false
        → read_line sh today (context_of st) t.bytes ≡ no n off
        → Broken size k st (t ∷ ts) (Refused n k (t.start + off))
    -- 10: the closing line has passed, and the total is refused, at its own place
    total : {x : InGroup} {v : ℕ} {t : Line} {ts : List Line}
        → null x.items ≡ false
        → Follows t (at_item x) close_group v
        → total_broken sh.strict x.head.total (sum (items_of x)) ≡ true
        → Broken size k (at_item x) (t ∷ ts) (Refused 10 x.head.line x.head.byte)

  -- the answer names the first fault of the file
  pub record FirstFault (f : List ℕ) (a : Answer) : Type 0 where
    pub before : List Line
    pub after : List Line
    pub split : lines_of 0 f ≡ rev_on before after
    pub so_far : State
    pub lawful : Lawful before so_far
    pub broken : Broken (length f) (suc (length before)) so_far after a
