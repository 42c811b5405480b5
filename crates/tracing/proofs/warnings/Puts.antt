-- What is put for a line, and what the code asks for, by what it knows there. Assumes nothing.
use mathlib.Core.Path.{◌≡◌, refl, sym, ap, ◌∙◌}
use mathlib.Core.Bool.{Bool, true, false}
use mathlib.Core.List.{List, []}
use Prim.Native.Nat.{ℕ, suc, ◌+◌, ◌≤◌}
use native.Mathlib.Omega.{arith}
use lib.ListN.{length}
use Rattle.sheet.specs.declared.Sheet.{Sheet}
use Rattle.paper.specs.Accounts.{account, is_nobody}
use Rattle.paper.specs.Batch.{most14}
use Rattle.paper.specs.Lines.{Line, lines_from}
use Rattle.paper.specs.Entries.{file, plain, counted, group_line, kind_of}
use Rattle.paper.specs.Terms.{day_here}
use Rattle.paper.specs.FileLine.{read_file}
use Rattle.paper.specs.GroupLine.{read_group}
use Rattle.paper.specs.ItemLine.{read_item}
use Rattle.paper.specs.Rows.{accepted, single_after, single_behind}
use Rattle.paper.specs.Judge.{State, context_of, step, run}
use Rattle.paper.proofs.Starts.{kind-long}
use Rattle.scan.specs.declared.kind.LineKind.{LineKind}
use Rattle.scan.specs.declared.kind.LineKind.TheVariants as found
use Rattle.scan.specs.kind.Told as kinds
use Rattle.scan.specs.declared.line.Cut.{Cut}
use Rattle.scan.specs.line.Cutting.{Cuts}
use Rattle.numeral.specs.counted.Counted.{Counted}
use Rattle.numeral.specs.placed.Said.{is_said}
use Rattle.fileline.specs.declared.take.File.{File}
use Rattle.fileline.specs.take.Any.{any_number}
use Rattle.groupline.specs.declared.take.Group.{Group}
use Rattle.groupline.specs.take.Taken.{Opens}
use Rattle.itemline.specs.Walk.{any_bank}
use Rattle.exact.proofs.Moves.{Moves, Next, on, halted, stays, next}
use Rattle.why.specs.Finding.{accepts}
use Rattle.why.specs.declared.Finding.{Finding}
use Rattle.why.specs.Warned.{ahead, line_warned}
use Rattle.listing.specs.declared.Telling.{Telling}
use Rattle.listing.specs.Listed.{listed}
use Rattle.listing.specs.group.Warned.{group_warned, cut as bytes_in, line_in}
use Rattle.listing.specs.group.Ahead.{ItemsSaid}
use Rattle.listing.specs.item.Warned.{item_warned}
use Rattle.listing.proofs.Putting.{none-put}
use Rattle.tracing.specs.declared.warnings.Step.{Step}
use Rattle.tracing.specs.warnings.Passing.{Keeps, Stands, Passes, Passed, Puts}
use Rattle.tracing.proofs.warnings.Ahead.{unbroken}
use Rattle.tracing.proofs.warnings.Says.{Says, says}

-- a group that was taken is single where its payer is nobody
pub single-is : (sh : Sheet) (today : ℕ) (s : List ℕ) (g : Group) → Opens (read_group sh today (day_here sh 0) s) g
    → (b : Bool) → b ≡ is_nobody (account g.prefix g.base) → b ≡ single_behind false (counted (read_group sh today (day_here sh 0) s))
unfolding counted single_behind single_after
single-is sh today s g o b e = rw o.says e

-- a group's line has two bytes or more
pub group-long : (s : List ℕ) → kind_of s ≡ group_line → 2 ≤ length s
group-long s e = kind-long s group_line e

-- what is put by the sum that was found is put by the exact one
pub group-exact : (t : Telling) (f : List ℕ) (at : ℕ) (cut : Cut) (k kind : ℕ) (b : Bool) (here : Bool) → here ≡ day_here t.sheet kind
    → (exact : ℕ) → ((today : ℕ) → ahead t.sheet today (accepted b) (lines_from f cut.next) ≤ most14 → exact ≡ ahead t.sheet today (accepted b) (lines_from f cut.next))
    → ahead t.sheet t.today (accepted b) (lines_from f cut.next) ≤ most14
    → (o o' : List ℕ) (to r : ℕ) → Counted o to (listed t f (group_warned t.sheet t.today k (line_in f at cut.stop) here exact)) o' r
    → Counted o to (listed t f (group_warned t.sheet t.today k (line_in f at cut.stop) (day_here t.sheet kind) (ahead t.sheet t.today (accepted b) (lines_from f cut.next)))) o' r
group-exact t f at cut k kind b here e exact q low o o' to r w = rw (e, q t.today low) at w

module _ (t : Telling) (f : List ℕ) (at : ℕ) (cut : Cut) (cuts : Cuts f at cut) (k : ℕ) (x : Step) where
  abbrev here : Line
  here = line_in f at cut.stop

  abbrev later : List Line
  later = lines_from f cut.next

  abbrev behind : State → State
  behind st = step t.sheet t.today k (line_in f at cut.stop) st

  abbrev Good : State → Type 0
  Good new = accepts (run t.sheet t.today (length f) (suc k) (lines_from f cut.next) new) ≡ true

  -- from behind the line on the file is accepted too
  good : (st : State) → Stands t f at k x st → Good (behind st)
  unfolding run
  good st s = rw cuts.lines at s.accepted

  -- so the line breaks no rule
  moves : (st new : State) → Next t.sheet t.today (length f) k here later st new → Keeps x st → Good new → Moves t.sheet t.today k here st new
  moves st new (on m) keeps a = m
  moves st new (halted {n = n} {l = l} {p = p} b) keeps a = unbroken t.sheet t.today (length f) (suc k) later n l p a
  moves st new stays keeps a = absurd keeps

  pub moved : (st : State) → Stands t f at k x st → Moves t.sheet t.today k (line_in f at cut.stop) st (step t.sheet t.today k (line_in f at cut.stop) st)
  moved st s = moves st (behind st) (next t.sheet t.today (length f) k here later st) s.keeps (good st s)

  -- what it warns of is put, and y is kept
  passed : (st : State) → Stands t f at k x st → (o o' : List ℕ) (y : Step) → Keeps y (behind st) → (fs : List Finding)
      → line_warned t.sheet t.today k here later (context_of st) ≡ fs → Counted o x.next (listed t f fs) o' y.next → Passed t f at cut k x st o o' y
  passed st s o o' y keeps fs e w =
      let one : suc k ≡ k + 1 = omega arith in
      record { put = rw e w; stands = record { keeps = keeps; accepted = rw one at (good st s) } }

  -- r is the kind that was found
  module _ (r : LineKind) (tells : kinds.told r ≡ kind_of (bytes_in f at cut.stop)) where
    says_of : (v : LineKind) → r ≡ v → (st : State) → Stands t f at k x st → Says t.sheet t.today k here later x (kinds.told v) st (behind st)
    says_of v e st s =
        let kind : kind_of (bytes_in f at cut.stop) ≡ kinds.told v = sym tells ∙ ap kinds.told e in
        rw kind at (says t.sheet t.today k here later x (length f) st (behind st) (moved st s) s.keeps (good st s))

    -- ---- the first line, and both that close

    pub head-put : r ≡ found.Head → (o : List ℕ) → Puts t f at cut k x o o x
    head-put e o st s = let z = says_of found.Head e st s in passed st s o o x z.keeps [] z.none (none-put t f)

    pub group-end-put : r ≡ found.GroupEnd → (o : List ℕ) → Puts t f at cut k x o o x
    group-end-put e o st s = let z = says_of found.GroupEnd e st s in passed st s o o x z.keeps [] z.none (none-put t f)

    pub file-end-put : r ≡ found.FileEnd → (o : List ℕ) → Puts t f at cut k x o o x
    file-end-put e o st s = let z = says_of found.FileEnd e st s in passed st s o o x z.keeps [] z.none (none-put t f)

    -- ---- an account file's line

    module _ (e : r ≡ found.File) where
      pub file-read : Passes t f at k x → is_said (read_file t.sheet any_number (bytes_in f at cut.stop)) ≡ true
      file-read p = (says_of found.File e p.state p.stands).ready

      pub file-put : (a : File) → plain (file a.kind a.number) ≡ read_file t.sheet any_number (bytes_in f at cut.stop) → (o : List ℕ)
          → Puts t f at cut k x o o (record { next = x.next; kind = a.kind; single = x.single })
      file-put a q o st s =
          let z = says_of found.File e st s in
          let y : Step = record { next = x.next; kind = a.kind; single = x.single } in
          passed st s o o y (z.keeps y a.number q) [] z.none (none-put t f)

    -- ---- a group's line

    module _ (e : r ≡ found.Group) where
      pub group-kind : kind_of (bytes_in f at cut.stop) ≡ group_line
      group-kind = sym tells ∙ ap kinds.told e

      pub group-read : Passes t f at k x → is_said (read_group t.sheet t.today (day_here t.sheet 0) (bytes_in f at cut.stop)) ≡ true
      group-read p = (says_of found.Group e p.state p.stands).ready

      module _ (b : Bool) (is : b ≡ single_behind false (counted (read_group t.sheet t.today (day_here t.sheet 0) (bytes_in f at cut.stop)))) where
        pub group-items : Passes t f at k x → ItemsSaid t.sheet b (lines_from f cut.next)
        group-items p = rw is (says_of found.Group e p.state p.stands).items

        pub group-low : Passes t f at k x → ahead t.sheet t.today (accepted b) (lines_from f cut.next) ≤ most14
        group-low p = rw is (says_of found.Group e p.state p.stands).low

        pub group-put : (o o' : List ℕ) (n : ℕ)
            → Counted o x.next (listed t f (group_warned t.sheet t.today k (line_in f at cut.stop) (day_here t.sheet x.kind) (ahead t.sheet t.today (accepted b) (lines_from f cut.next)))) o' n
            → Puts t f at cut k x o o' (record { next = n; kind = x.kind; single = b })
        group-put o o' n w st s =
            let z = says_of found.Group e st s in
            let y : Step = record { next = n; kind = x.kind; single = b } in
            passed st s o o' y (z.keeps y refl is) _ z.warns (rw is at w)

    -- ---- an item's line

    module _ (e : r ≡ found.Item) where
      pub item-read : Passes t f at k x → is_said (read_item t.sheet any_bank x.single (bytes_in f at cut.stop)) ≡ true
      item-read p = (says_of found.Item e p.state p.stands).ready

      pub item-put : (o o' : List ℕ) (n : ℕ) → Counted o x.next (listed t f (item_warned t.sheet t.today k (line_in f at cut.stop) x.single)) o' n
          → Puts t f at cut k x o o' (record { next = n; kind = x.kind; single = x.single })
      item-put o o' n w st s =
          let z = says_of found.Item e st s in
          let y : Step = record { next = n; kind = x.kind; single = x.single } in
          passed st s o o' y (z.keeps y refl refl) _ z.warns w

pub ruleset quiets = (head-put, group-end-put, file-end-put)

pub ruleset files = (file-read, file-put)

pub ruleset groups = (group-kind, group-read, group-items, group-low, group-put)

pub ruleset items = (item-read, item-put)
