-- What an accepted file warns of, in file order: each total that differs at its group's line, before that line's own warning, and each other
-- warning at its field, or at the first byte of the part or name that is cut. Document 02, W-205; document 01, "Warnings are counted". Assumes
-- nothing.
use Rattle.std.specs.Prelude.{ℕ, suc, ◌+◌, ◌/◌, ◌≤◌, List, [], ◌∷◌, ◌++◌, map, eqb, length, take, drop, get_or}
use Rattle.base.specs.Pick.{pick}
use Rattle.base.specs.Seek.{before}
use Rattle.sheet.specs.declared.Sheet.{Sheet}
use Rattle.sheet.specs.declared.Style.{Style}
use Rattle.paper.specs.Warnings.{Warning, past_day, low_priority, long_part, long_name, Notice}
use Rattle.paper.specs.Bytes.{field_of, bar}
use Rattle.paper.specs.Accounts.{is_nobody}
use Rattle.paper.specs.Texts.{message_end}
use Rattle.paper.specs.Lines.{Line, lines_of}
use Rattle.paper.specs.Entries.{on_group, on_item, Places, Saying, Listed, got, no, kind_of}
use Rattle.paper.specs.Spells.{Context, for_item, read_as}
use Rattle.paper.specs.Judge.{State, at_first, context_of, step}
use Rattle.why.specs.declared.Finding.{Finding}
use Rattle.why.specs.Names.{Name, group_total, group_day, bank_field, first_part, second_part, third_part, fourth_part, payee_name}
use Rattle.why.specs.Forms.{spelled}
use Rattle.why.specs.Finding.{finding}

-- a line that is read goes on (k); one that is not answers z
unfoldable pub on_listed : {A : Type 0} → Listed → (Saying (List Notice) → A) → A → A
on_listed (got x) k z = k x
on_listed (no n off) k z = z

-- ---- one warning of a line

-- which of the four parts begins at the offset
unfoldable pub part_name : ℕ → List ℕ → Name
part_name off ps =
    pick (eqb off (get_or ps 0 0)) first_part
    (pick (eqb off (get_or ps 1 0)) second_part
    (pick (eqb off (get_or ps 2 0)) third_part fourth_part))

-- a part, uncut, that s begins with: to the next `|`, or to where the message ends
unfoldable pub part_from : Style → List ℕ → List ℕ
part_from y s = before bar (take (message_end y s) s)

-- A warning of the line w, line k, which starts at `at`. A past day: today is the first that is not. K's priority digit: it, and what it is
-- read as. A part or a name that is cut: to 35 bytes.
unfoldable pub warned : Sheet → ℕ → ℕ → ℕ → List ℕ → Places → Warning → ℕ → Finding
warned sh today k at w p past_day off = finding 0 1011 k (at + off) (length (field_of (drop off w))) group_day today 0
warned sh today k at w p low_priority off =
    finding 0 1014 k (at + off) (length (field_of (drop off w))) bank_field (spelled (field_of (drop off w)) / 100000000) 5
warned sh today k at w p long_part off =
    finding 0 1012 k (at + off) (length (part_from sh.text (drop off w))) (part_name off p.parts) 0 35
warned sh today k at w p long_name off = finding 0 1013 k (at + off) (length (drop off w)) payee_name 0 35

-- .. of a notice
abbrev pub noticed : Sheet → ℕ → ℕ → Line → Places → Notice → Finding
noticed sh today k t p n = warned sh today k t.start t.bytes p n.warning n.offset

-- ---- a total that differs

-- the exact sum of the items that follow, in their context
unfoldable pub ahead : Sheet → ℕ → Context → List Line → ℕ
ahead sh today c [] = 0
ahead sh today c (t ∷ ts) =
    on_listed (read_as sh today c (kind_of t.bytes) t.bytes) (λ x. on_item x.entry (λ i. i.amount + ahead sh today c ts) 0 0) 0

-- a total of line k, at that offset, which is not the exact sum
unfoldable pub differing : ℕ → Line → ℕ → ℕ → ℕ → List Finding
differing k t off total exact =
    pick (eqb total exact) [] (finding 0 1010 k (t.start + off) (length (field_of (drop off t.bytes))) group_total exact exact ∷ [])

-- .. where the line says a group, in an account file of that kind, and the lines ts follow
unfoldable pub total_warned : Sheet → ℕ → ℕ → Line → List Line → ℕ → Saying (List Notice) → List Finding
total_warned sh today k t ts kind x =
    on_group x.entry
    (λ payer total date. differing k t x.places.total total (ahead sh today (for_item kind date (is_nobody payer)) ts))
    []
    []

-- ---- a line, and a file

-- line k, in its context, with the lines that follow it
unfoldable pub line_warned : Sheet → ℕ → ℕ → Line → List Line → Context → List Finding
line_warned sh today k t ts c =
    on_listed (read_as sh today c (kind_of t.bytes) t.bytes)
    (λ x. total_warned sh today k t ts c.kind x ++ map (noticed sh today k t x.places) x.warnings)
    []

-- lines from line k on
unfoldable pub warned_on : Sheet → ℕ → ℕ → List Line → State → List Finding
warned_on sh today k [] st = []
warned_on sh today k (t ∷ ts) st = line_warned sh today k t ts (context_of st) ++ warned_on sh today (suc k) ts (step sh today k t st)

-- every warning of a file that is accepted
unfoldable pub warned_in : Sheet → ℕ → List ℕ → List Finding
warned_in sh today f = warned_on sh today 1 (lines_of 0 f) at_first

-- places that never go back: from line l and byte b on, each finding is at the place of the one before it or behind
pub data Onward : ℕ → ℕ → List Finding → Type 0 where
  done : {l b : ℕ} → Onward l b []
  next : {l b : ℕ} {x : Finding} {xs : List Finding} → l ≤ x.line → b ≤ x.byte → Onward x.line x.byte xs → Onward l b (x ∷ xs)
