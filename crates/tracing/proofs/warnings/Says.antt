-- What a line of an accepted file says, by its kind: that it is read where nothing is judged, what it warns of, and what is kept behind it.
-- Assumes nothing.
use mathlib.Core.Path.{◌≡◌, sym, ap, ◌∙◌}
use mathlib.Core.Bool.{Bool, true, false}
use mathlib.Core.List.{List, []}
use Prim.Native.Nat.{ℕ, suc, ◌≤◌}
use Rattle.sheet.specs.declared.Sheet.{Sheet}
use Rattle.paper.specs.Accounts.{Account, is_nobody}
use Rattle.paper.specs.Batch.{most14}
use Rattle.paper.specs.Lines.{Line}
use Rattle.paper.specs.Entries.{Entry, file, group, Places, said, plain, counted, Kind, head_line, file_line, group_line, item_line, group_end, file_end, kind_of, on_file, on_entry}
use Rattle.paper.specs.Terms.{day_here}
use Rattle.paper.specs.FileLine.{read_file}
use Rattle.paper.specs.GroupLine.{read_group}
use Rattle.paper.specs.ItemLine.{read_item}
use Rattle.paper.specs.Spells.{number_test, read_as, read_line}
use Rattle.paper.specs.Rows.{accepted, single_after, single_behind}
use Rattle.paper.specs.Judge.{State, at_first, at_file, at_group, at_item, context_of, run}
use Rattle.paper.proofs.Passing.{same_parts}
use Rattle.numeral.specs.placed.Said.{is_said}
use Rattle.numeral.proofs.placed.Goes.{said-counted}
use Rattle.fileline.specs.take.Any.{any_number}
use Rattle.itemline.specs.Walk.{any_bank}
use Rattle.exact.proofs.Told.{told-line, kind-head, kind-file, kind-group, kind-item, kind-group-end, kind-file-end}
use Rattle.exact.proofs.Moves.{Moves, heads, opens, begins, more, closes, finishes}
use Rattle.rowlaws.proofs.Within.{file-line-again, group-again}
use Rattle.why.specs.Finding.{accepts}
use Rattle.why.specs.Warned.{ahead, line_warned}
use Rattle.why.proofs.Warned.{listed}
use Rattle.listing.specs.group.Warned.{group_warned}
use Rattle.listing.specs.group.Ahead.{ItemsSaid}
use Rattle.listing.specs.item.Warned.{item_warned}
use Rattle.listing.proofs.group.Same.{group_lines, other-lines}
use Rattle.listing.proofs.item.Same.{item-lines}
use Rattle.tracing.specs.declared.warnings.Step.{Step}
use Rattle.tracing.specs.warnings.Passing.{Keeps}
use Rattle.tracing.proofs.warnings.Ahead.{read-as-item, read-item, follow, follow-low}

-- line k, t, with the lines ts behind it, to which the pass came with x
module _ (sh : Sheet) (today k : ℕ) (t : Line) (ts : List Line) (x : Step) where
  -- the first line, and both that close
  pub record QuietSays (st new : State) : Type 0 where
    pub none : line_warned sh today k t ts (context_of st) ≡ []
    pub keeps : Keeps x new

  -- an account file's line
  pub record FileSays (st new : State) : Type 0 where
    pub ready : is_said (read_file sh any_number t.bytes) ≡ true
    pub none : line_warned sh today k t ts (context_of st) ≡ []
    pub keeps : (y : Step) (number : ℕ) → plain (file y.kind number) ≡ read_file sh any_number t.bytes → Keeps y new

  -- whether the group is single that the line begins
  abbrev alone : Bool
  alone = single_behind false (counted (read_group sh today (day_here sh 0) t.bytes))

  -- a group's line
  pub record GroupSays (st new : State) : Type 0 where
    pub ready : is_said (read_group sh today (day_here sh 0) t.bytes) ≡ true
    pub items : ItemsSaid sh alone ts
    pub low : ahead sh today (accepted alone) ts ≤ most14
    pub warns : line_warned sh today k t ts (context_of st) ≡ group_warned sh today k t (day_here sh x.kind) (ahead sh today (accepted alone) ts)
    pub keeps : (y : Step) → y.kind ≡ x.kind → y.single ≡ alone → Keeps y new

  -- an item's line
  pub record ItemSays (st new : State) : Type 0 where
    pub ready : is_said (read_item sh any_bank x.single t.bytes) ≡ true
    pub warns : line_warned sh today k t ts (context_of st) ≡ item_warned sh today k t x.single
    pub keeps : (y : Step) → y.kind ≡ x.kind → y.single ≡ x.single → Keeps y new

  abbrev pub Says : Kind → State → State → Type 0
  Says head_line st new = QuietSays st new
  Says file_line st new = FileSays st new
  Says group_line st new = GroupSays st new
  Says item_line st new = ItemSays st new
  Says group_end st new = QuietSays st new
  Says file_end st new = QuietSays st new

  -- ---- read again where nothing is judged

  module _ (kind number v : ℕ) (p : Places) (e : counted (read_file sh any_number t.bytes) ≡ said (file kind number) v p) where
    file-ready : is_said (read_file sh any_number t.bytes) ≡ true
    unfolding is_said
    file-ready = sym (said-counted (read_file sh any_number t.bytes)) ∙ ap is_said e

    file-kind : (a n : ℕ) → plain (file a n) ≡ read_file sh any_number t.bytes → a ≡ kind
    unfolding counted on_file on_entry
    file-kind a n q = ap (λ (y : Entry). on_file y (λ b _. b) 0) (same_parts (ap counted q ∙ e)).0

  module _ (payer : Account) (total date v : ℕ) (p : Places) (e : counted (read_group sh today (day_here sh 0) t.bytes) ≡ said (group payer total date) v p) where
    group-ready : is_said (read_group sh today (day_here sh 0) t.bytes) ≡ true
    unfolding is_said
    group-ready = sym (said-counted (read_group sh today (day_here sh 0) t.bytes)) ∙ ap is_said e

    alone-is : alone ≡ is_nobody payer
    unfolding single_behind single_after
    alone-is = rw e

  -- ---- a line that moves the judge on in a file that is accepted

  pub says : (size : ℕ) (st new : State) → Moves sh today k t st new → Keeps x st → accepts (run sh today size (suc k) ts new) ≡ true → Says (kind_of t.bytes) st new
  unfolding context_of read_line read_as number_test
  says size st new (heads (p, q)) keeps a =
      let kind = kind-head (told-line sh today (context_of at_first) t.bytes _ q) in
      rw kind (record { none = other-lines sh today k t ts (context_of at_first) head_line tt kind; keeps = tt })
  says size st new (opens {x = b} {kind = i} {number = n} {v = v} few (p, q)) keeps a =
      let kind = kind-file (told-line sh today (context_of (at_file b)) t.bytes _ q) in
      let e = rw kind at (file-line-again sh today (context_of (at_file b)) false t.bytes v p i n q) in
      rw kind
      (record {
        ready = file-ready i n v p e;
        none = other-lines sh today k t ts (context_of (at_file b)) file_line tt kind;
        keeps = λ y m h. file-kind i n v p e y.kind m h;
      })
  says size st new (begins {x = g} {payer = payer} {total = total} {date = date} {v = v} {p = p} q) keeps a =
      let kind = kind-group (told-line sh today (context_of (at_group g)) t.bytes _ q) in
      let (u, again) = group-again sh today (context_of (at_group g)) false t.bytes v p payer total date q in
      let e = rw kind at again in
      let (ns, r, n) = listed sh today (context_of (at_group g)) t q in
      let is = alone-is payer total date u p e in
      rw kind
      (record {
        ready = group-ready payer total date u p e;
        items = rw is (follow sh today size ts (suc k) _ a).ready;
        low = rw is (follow-low sh today size ts (suc k) _ a);
        warns = rw (is, (follow sh today size ts (suc k) _ a).same, keeps) (group_lines sh today k t ts (context_of (at_group g)) kind (rw kind at r));
        keeps = λ y h i. (h ∙ keeps, i ∙ is);
      })
  says size st new (more {x = g} free (p, q)) (same, is) a =
      let kind = kind-item (told-line sh today (context_of (at_item g)) t.bytes _ q) in
      rw kind
      (record {
        ready = rw is (read-item sh today (context_of (at_item g)) t q);
        warns = rw is (item-lines sh today (context_of (at_item g)) k t ts kind (read-as-item sh today (context_of (at_item g)) t q));
        keeps = λ y h i. (h ∙ same, i ∙ is);
      })
  says size st new (closes {x = g} some (p, q) good) keeps a =
      let kind = kind-group-end (told-line sh today (context_of (at_item g)) t.bytes _ q) in
      rw kind (record { none = other-lines sh today k t ts (context_of (at_item g)) group_end tt kind; keeps = keeps.0 })
  says size st new (finishes {x = g} some (p, q)) keeps a =
      let kind = kind-file-end (told-line sh today (context_of (at_group g)) t.bytes _ q) in
      rw kind (record { none = other-lines sh today k t ts (context_of (at_group g)) file_end tt kind; keeps = tt })
