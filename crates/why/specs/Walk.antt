-- Why a line is refused: its fields from left to right, each by its rules. Document 01, "Lines" and "Numbers returned"; document 02, W-205.
-- Assumes nothing.
use Rattle.std.specs.Prelude.{ℕ, ◌+◌, Bool, true, false, List, [], ◌∷◌, eqb, length, take, drop}
use Rattle.base.specs.Pick.{pick}
use Rattle.base.specs.Seek.{starts, seek}
use Rattle.sheet.specs.declared.Sheet.{Sheet}
use Rattle.paper.specs.Bytes.{space, field_of, rest_of}
use Rattle.paper.specs.Entries.{Kind, head_line, file_line, group_line, item_line, group_end, file_end}
use Rattle.paper.specs.GroupLine.{has_payer}
use Rattle.paper.specs.Spells.{Context}
use Rattle.why.specs.Rule.{Rule, Tested, kept, broke, first_broken}
use Rattle.why.specs.Names.{Name, creation_day, firm_name, client_number, interval_start, interval_end, rest_of_line, file_kind, file_number, payer_bank, group_payer, group_total, group_day, item_payer, payee, amount, variable_symbol, bank_field, specific_symbol, message, group_closing, file_closing}
use Rattle.why.specs.Forms.{are_digits}
use Rattle.why.specs.Fields.{rules_of}

-- A fault of a line: the refusal's number and the cause; its offset in the line, and how many bytes were found there; the field; what was allowed.
pub record Fault : Type 0 where
  pub number : ℕ
  pub cause : ℕ
  pub offset : ℕ
  pub length : ℕ
  pub field : Name
  pub least : ℕ
  pub most : ℕ

-- a broken rule
abbrev pub by_rule : Rule → ℕ → ℕ → Name → Fault
by_rule r at n name =
    record { number = r.number; cause = r.cause; offset = at; length = n; field = name; least = r.least; most = r.most }

-- 4 for the form of the line: a divider that is missing (41) before the field, or one too many (42) behind it, or a closing line (43)
abbrev pub by_form : ℕ → ℕ → ℕ → Name → Fault
by_form why at n name = record { number = 4; cause = why; offset = at; length = n; field = name; least = 0; most = 0 }

-- a line that breaks no rule, or its first fault from the left
pub data Walked : Type 0 where
  passed : Walked
  stopped : Fault → Walked

-- ---- fields from left to right: `at` is the offset in the line, s the rest of the line from there

-- a field that keeps its rules goes on; of one that does not, these n bytes were found
unfoldable pub on_tested : Name → ℕ → ℕ → Tested → Walked → Walked
on_tested name at n kept k = k
on_tested name at n (broke r) k = stopped (by_rule r at n name)

-- the space that divides two fields, of which the second is named; a missing one is 4 at the line's end
unfoldable pub divider : Name → ℕ → List ℕ → (ℕ → List ℕ → Walked) → Walked
divider name at [] k = stopped (by_form 41 at 0 name)
divider name at (x ∷ s) k = k (at + 1) s

-- nothing follows the field; what does is 4 at its first byte
unfoldable pub ended : ℕ → Name → ℕ → List ℕ → Walked
ended why name at [] = passed
ended why name at (x ∷ s) = stopped (by_form why at (length (x ∷ s)) name)

-- where fields begin in a line of a kind: behind what it is known by
abbrev pub mark : Kind → ℕ
mark head_line = 4
mark file_line = 2
mark group_line = 2
mark item_line = 0
mark group_end = 1
mark file_end = 1

-- ---- lines that close

-- a plus and nothing more: 4 at the first wrong byte
unfoldable pub closing_plus : Name → ℕ → List ℕ → Walked
closing_plus name at [] = stopped (by_form 43 at 0 name)
closing_plus name at (x ∷ s) = pick (eqb x 43) (ended 43 name (at + 1) s) (stopped (by_form 43 at (length (x ∷ s)) name))

-- behind the line's first byte: a space and a plus; on C and E (`near`) also a plus at once
unfoldable pub why_close : Bool → Name → List ℕ → Walked
why_close near name w =
    pick (starts space (drop 1 w)) (closing_plus name 2 (drop 2 w))
    (pick near (closing_plus name 1 (drop 1 w)) (stopped (by_form 43 1 (length (drop 1 w)) name)))

-- ---- the other lines: the line w, on a sheet, on a day, in its context
module _ (sh : Sheet) (today : ℕ) (c : Context) (w : List ℕ) where
  -- a field that runs to the next space or the line's end
  unfoldable pub column : Name → ℕ → List ℕ → (ℕ → List ℕ → Walked) → Walked
  column name at s k =
      on_tested name at (length (field_of s)) (first_broken (rules_of sh today c w name) (field_of s)) (k (at + seek space s) (rest_of s))

  -- a field of n bytes, by place; of a line that ends before or inside it fewer are found
  unfoldable pub spot : ℕ → Name → ℕ → List ℕ → (ℕ → List ℕ → Walked) → Walked
  spot n name at s k =
      on_tested name at (length (take n s)) (first_broken (rules_of sh today c w name) (take n s)) (k (at + n) (drop n s))

  -- a field that is the rest of the line, whole
  unfoldable pub last : Name → ℕ → List ℕ → Walked
  last name at s = on_tested name at (length s) (first_broken (rules_of sh today c w name) s) passed

  -- K, S, E and P: `UHL1`, date, name 20, client number 10, interval start and end 3 and 3, the rest. C: `UHL1` and anything.
  unfoldable pub why_first : Walked
  why_first =
      pick sh.header
      (spot 6 creation_day 4 (drop 4 w) λ a1 s1.
      spot 20 firm_name a1 s1 λ a2 s2.
      spot 10 client_number a2 s2 λ a3 s3.
      spot 3 interval_start a3 s3 λ a4 s4.
      spot 3 interval_end a4 s4 λ a5 s5.
      last rest_of_line a5 s5)
      passed

  -- `1 KIND NUMBER BANK`
  unfoldable pub why_file : Walked
  why_file =
      column file_kind 2 (drop 2 w) λ a1 s1.
      divider file_number a1 s1 λ a2 s2.
      column file_number a2 s2 λ a3 s3.
      divider payer_bank a3 s3 λ a4 s4.
      column payer_bank a4 s4 λ a5 s5.
      ended 42 payer_bank a5 s5

  -- TOTAL and DATE
  unfoldable pub why_total : ℕ → List ℕ → Walked
  why_total at s =
      column group_total at s λ a1 s1.
      divider group_day a1 s1 λ a2 s2.
      column group_day a2 s2 λ a3 s3.
      ended 42 group_day a3 s3

  -- `2 TOTAL DATE`, or with the payer's account before TOTAL
  unfoldable pub why_group : Walked
  why_group =
      pick (has_payer sh.emptypayer w)
      (column group_payer 2 (drop 2 w) λ a1 s1.
      divider group_total a1 s1 λ a2 s2.
      why_total a2 s2)
      (why_total 2 (drop 2 w))

  -- S: a space, a symbol or none, a space, and a text that may be empty
  unfoldable pub why_fixed : ℕ → List ℕ → Walked
  why_fixed at s =
      divider specific_symbol at s λ a1 s1.
      column specific_symbol a1 s1 λ a2 s2.
      divider message a2 s2 λ a3 s3.
      last message a3 s3

  -- behind a symbol: nothing, or a space and a text
  unfoldable pub why_behind : ℕ → List ℕ → Walked
  why_behind at [] = passed
  why_behind at (x ∷ s) = last message (at + 1) s

  -- K, C, E and P: nothing, or a space and a symbol, or these, a space and a text; on C also a space and a text, where what follows the space is
  -- no symbol
  unfoldable pub why_open : ℕ → List ℕ → Walked
  why_open at [] = passed
  why_open at (x ∷ s) =
      pick (pick sh.bare (pick (are_digits 1 10 (field_of s)) false true) false)
      (last message (at + 1) s)
      (column specific_symbol (at + 1) s why_behind)

  -- payee, amount, variable symbol, bank field, tail
  unfoldable pub why_payee : ℕ → List ℕ → Walked
  why_payee at s =
      column payee at s λ a1 s1.
      divider amount a1 s1 λ a2 s2.
      column amount a2 s2 λ a3 s3.
      divider variable_symbol a3 s3 λ a4 s4.
      column variable_symbol a4 s4 λ a5 s5.
      divider bank_field a5 s5 λ a6 s6.
      column bank_field a6 s6 λ a7 s7.
      pick sh.fixedtail (why_fixed a7 s7) (why_open a7 s7)

  -- the payer's account comes first where the group is single
  unfoldable pub why_item : Walked
  why_item =
      pick c.single
      (column item_payer 0 w λ a1 s1.
      divider payee a1 s1 λ a2 s2.
      why_payee a2 s2)
      (why_payee 0 w)

  -- a line of a known kind
  unfoldable pub why_as : Kind → Walked
  why_as head_line = why_first
  why_as file_line = why_file
  why_as group_line = why_group
  why_as item_line = why_item
  why_as group_end = why_close sh.near group_closing w
  why_as file_end = why_close sh.near file_closing w
