-- What each line leads to, with what the code knows at each exit. Assumes nothing.
use Rattle.std.proofs.Common.{Some, None, Option, Result, Ok, Err}
use Rattle.refusal.specs.declared.Flaw.{Flaw}
use Rattle.refusal.specs.Numbers.{number_of}
use mathlib.Core.Path.{◌≡◌, refl, sym, ap, subst, ◌∙◌}
use mathlib.Core.Bool.{false}
use mathlib.Core.List.{List, [], ◌∷◌}
use Prim.Native.Nat.{ℕ, ◌+◌, ◌/◌, ◌≤◌, ◌<◌}
use native.Mathlib.Omega.{arith}
use lib.ListN.{length}
use borrow.Author.Tests.{le-leb, eq-eqb}
use Rattle.base.specs.Pick.{pick}
use Rattle.base.proofs.Cases.{by-test}
use Rattle.sheet.specs.declared.Sheet.{Sheet}
use Rattle.sheet.proofs.Laws.{Sane}
use Rattle.paper.specs.Batch.{Header, no_header}
use Rattle.paper.specs.Lines.{Line}
use Rattle.paper.specs.Entries.{Entry, counted, head_line, file_line, file_end, kind_of, on_head, on_file, on_group, on_entry}
use Rattle.paper.specs.FirstLine.{read_first}
use Rattle.paper.specs.FileLine.{series, read_file}
use Rattle.paper.specs.ClosingLine.{read_close}
use Rattle.paper.specs.Spells.{read_as, differs}
use Rattle.paper.specs.Judge.{total_broken}
use Rattle.fileline.specs.seen.Bits.{Holds}
use Rattle.scan.specs.declared.line.Cut.{Cut}
use Rattle.scan.specs.line.Cutting.{Cuts}
use Rattle.scan.specs.declared.kind.LineKind.{LineKind}
use Rattle.scan.specs.declared.kind.LineKind.TheVariants as kind
use Rattle.scan.specs.kind.Told as kinds
use Rattle.firstline.specs.declared.Header.{Header as Fields}
use Rattle.firstline.specs.Stages.{name_in}
use Rattle.firstline.specs.Told as firsts
use Rattle.fileline.specs.declared.AccountFile.{AccountFile}
use Rattle.fileline.specs.Fault.{fault_in}
use Rattle.fileline.specs.Told as files
use Rattle.closing.specs.Told as closes
use Rattle.tally.specs.Tally.{No, Tally, t_first, t_file, t_stop, is_due, is_full, meet, on_said, step, closed}
use Rattle.tally.specs.Small.{Small}
use Rattle.tally.proofs.Small.{small-step, file-limits}
use Rattle.judge.specs.declared.group.Counts.{Counts}
use Rattle.judge.specs.declared.group.Shelf.{Shelf}
use Rattle.judge.specs.declared.group.Held.{Held}
use Rattle.itemline.specs.declared.judge.Judged.{Judged}
use Rattle.judge.specs.declared.group.Turn.{Turn}
use Rattle.judge.specs.declared.group.Turn.TheVariants as turn
use Rattle.judge.specs.declared.group.GroupEnd.{GroupEnd}
use Rattle.judge.specs.declared.refused.Refused.{Refused}
use Rattle.judge.specs.group.Stands.{book_of, shelf_of, open_of, in_file, in_group, LowItem, LowGroup, line_in, held_more, Turns, closed_as}
use Rattle.judge.specs.accountfile.Resume.{LowFile, file_more, new_shelf, Opens}
use Rattle.judge.proofs.group.Steps.{not-due, no_room, by-fields}
use Rattle.judge.proofs.group.Turns.{cut as cut_of}
use Rattle.judge.specs.refused.Lined.{lined}
use Rattle.judge.proofs.accountfile.Files.{series-low, says}
use Rattle.judge.proofs.accountfile.Groups.{closed-as}
use Rattle.course.specs.declared.Course.{Course}
use Rattle.course.specs.declared.Stage.{Stage}
use Rattle.course.specs.declared.Stage.TheVariants as stage
use Rattle.course.specs.Stands.{numbers_of, Low, Leads, at_first, at_file, at_group, at_item}
use Rattle.course.proofs.line.Lifts.{leads-halt, leads-on}

-- ---- a line that is not due, in any stage: r is the kind that was found

module _ (sh : Sheet) (today k : ℕ) (f : List ℕ) (at stop : ℕ) (r : LineKind) (t : kinds.told r ≡ kind_of (cut_of f at stop)) (from to : ℕ) (words : List ℕ) where
  other-line : (s : Stage) → ((h : Header) (l : List ℕ) → is_due (numbers_of h l s) (kinds.told r) ≡ false)
      → Leads sh today k (line_in f at stop) (record { from = from; to = to; stage = s }) words words None
  unfolding step
  other-line stage.First d = leads-halt sh today k _ _ words _ λ h l _. not-due sh today k (line_in f at stop) _ refl (kinds.told r) (sym t) (d h l)
  other-line (stage.File c) d = leads-halt sh today k _ _ words _ λ h l _. not-due sh today k (line_in f at stop) _ refl (kinds.told r) (sym t) (d h l)
  other-line (stage.Group c s) d = leads-halt sh today k _ _ words _ λ h l _. not-due sh today k (line_in f at stop) _ refl (kinds.told r) (sym t) (d h l)
  other-line (stage.Item y) d = leads-halt sh today k _ _ words _ λ h l _. not-due sh today k (line_in f at stop) _ refl (kinds.told r) (sym t) (d h l)

undue-first : (r : LineKind) → (r ≡ kind.Head → ⊥) → (h : Header) (l : List ℕ) → is_due (numbers_of h l stage.First) (kinds.told r) ≡ false
unfolding is_due
undue-first kind.Head i h l = absurd (i refl)
undue-first kind.File i h l = refl
undue-first kind.Group i h l = refl
undue-first kind.Item i h l = refl
undue-first kind.GroupEnd i h l = refl
undue-first kind.FileEnd i h l = refl

undue-file : (r : LineKind) → (r ≡ kind.File → ⊥) → (c : Counts) (h : Header) (l : List ℕ) → is_due (numbers_of h l (stage.File c)) (kinds.told r) ≡ false
unfolding is_due
undue-file kind.Head i c h l = refl
undue-file kind.File i c h l = absurd (i refl)
undue-file kind.Group i c h l = refl
undue-file kind.Item i c h l = refl
undue-file kind.GroupEnd i c h l = refl
undue-file kind.FileEnd i c h l = refl

undue-group : (r : LineKind) → (r ≡ kind.Group → ⊥) → (r ≡ kind.FileEnd → ⊥) → (c : Counts) (s : Shelf) (h : Header) (l : List ℕ)
    → is_due (numbers_of h l (stage.Group c s)) (kinds.told r) ≡ false
unfolding is_due pick
undue-group kind.Head i j c s h l = refl
undue-group kind.File i j c s h l = refl
undue-group kind.Group i j c s h l = absurd (i refl)
undue-group kind.Item i j c s h l = refl
undue-group kind.GroupEnd i j c s h l = refl
undue-group kind.FileEnd i j c s h l = absurd (j refl)

module _ (f : List ℕ) (at stop : ℕ) (r : LineKind) (t : kinds.told r ≡ kind_of (cut_of f at stop)) where
  pub first-other : (r ≡ kind.Head → ⊥) → (sh : Sheet) (today k from to : ℕ) (words : List ℕ) → Leads sh today k (line_in f at stop) (at_first from to) words words None
  first-other i sh today k from to words = other-line sh today k f at stop r t from to words stage.First (undue-first r i)

  pub file-other : (r ≡ kind.File → ⊥) → (sh : Sheet) (from to : ℕ) (c : Counts) (words : List ℕ) (today k : ℕ)
      → Leads sh today k (line_in f at stop) (at_file from to c) words words None
  file-other i sh from to c words today k = other-line sh today k f at stop r t from to words (stage.File c) (undue-file r i c)

  pub group-other : (r ≡ kind.Group → ⊥) → (r ≡ kind.FileEnd → ⊥) → (sh : Sheet) (from to : ℕ) (c : Counts) (s : Shelf) (today k : ℕ) (words : List ℕ)
      → Leads sh today k (line_in f at stop) (at_group from to c s) words words None
  group-other i j sh from to c s today k words = other-line sh today k f at stop r t from to words (stage.Group c s) (undue-group r i j c s)

-- ---- the first line: r is what was read, v the variant that this was found to be

module _ (sh : Sheet) (f : List ℕ) (at stop : ℕ) (e : kind_of (cut_of f at stop) ≡ head_line) (r : Result (Option Fields) Flaw) (t : firsts.told (cut_of f at stop) r ≡ read_first sh (cut_of f at stop)) where
  said : (v : Result (Option Fields) Flaw) → r ≡ v → (today k : ℕ) → on_said sh k at (counted (firsts.told (cut_of f at stop) v)) t_first ≡ step sh today k (line_in f at stop) t_first
  unfolding step is_due is_full read_as
  said v q today k = by-fields sh today k (line_in f at stop) t_first refl head_line e refl refl _ (ap counted (rw q at t))

  pub first-refused : (x : Flaw) → r ≡ Err x → (today k from to : ℕ) (words : List ℕ) → Leads sh today k (line_in f at stop) (at_first from to) words words None
  unfolding on_said counted
  first-refused x q today k from to words = leads-halt sh today k _ _ words _ λ h l _. said (Err x) q today k

  pub first_plain : (o : Option Fields) → r ≡ Ok o → o ≡ None → (today k from to : ℕ) (words : List ℕ)
      → Leads sh today k (line_in f at stop) (at_first from to) words words (Some (at_file 0 0 (record { files = 0; items = 0; rows = 0; warnings = 0 })))
  unfolding on_said meet on_entry on_head counted
  first_plain o q p today k from to words =
      leads-on sh today k _ _ words words _ λ h l known.
      (no_header, [], record { first = refl; last = refl; holds = subst (Holds words) known.fresh known.holds; fresh = tt }, said (Ok None) (q ∙ ap Ok p) today k)

  pub first-fields : (o : Option Fields) → r ≡ Ok o → (d : Fields) → o ≡ Some d → (today k from to : ℕ) (words : List ℕ)
      → Leads sh today k (line_in f at stop) (at_first from to) words words (Some (at_file d.from d.to (record { files = 0; items = 0; rows = 0; warnings = 0 })))
  unfolding on_said meet on_entry on_head counted
  first-fields o q d p today k from to words =
      leads-on sh today k _ _ words words _ λ h l known. (
        record { date = d.date; name = name_in (cut_of f at stop); client = d.client; from = d.from; to = d.to },
        [],
        record { first = refl; last = refl; holds = subst (Holds words) known.fresh known.holds; fresh = tt },
        said (Ok (Some d)) (q ∙ ap Ok p) today k,
      )

pub nothing-low : LowFile (record { files = 0; items = 0; rows = 0; warnings = 0 })
nothing-low = record { files = omega arith; items = omega arith; rows = omega arith; warnings = omega arith }

pub ruleset firsts-lead = (first-refused, first_plain, first-fields, nothing-low)

-- ---- an account file

module _ (sh : Sheet) (f : List ℕ) (at : ℕ) (c : Counts) (cut : Cut) (cuts : Cuts f at cut) (from to : ℕ) (words : List ℕ) (e : kind_of (cut_of f at cut.stop) ≡ file_line) where
  pub file-full : 1000 ≤ c.files → (today k : ℕ) → Leads sh today k (line_in f at cut.stop) (at_file from to c) words words None
  unfolding step is_due is_full
  file-full full today k =
      leads-halt sh today k _ _ words _ λ h l _.
      no_room sh today k (line_in f at cut.stop) (t_file (book_of h l c)) refl file_line e refl (le-leb _ _ full)

  module _ (room : c.files < 1000) (r : Result AccountFile Flaw) (t : files.told r ≡ read_file sh (fault_in sh.interval from to words) (cut_of f at cut.stop)) where
    pub file-refused : (x : Flaw) → r ≡ Err x → (today k : ℕ) → Leads sh today k (line_in f at cut.stop) (at_file from to c) words words None
    unfolding on_said counted
    file-refused x q today k =
        leads-halt sh today k _ _ words _ λ h l known.
        says sh f at k c cut cuts from to words e room r t (Err x) q today h known.first known.last l known.holds

    pub file-opened : (d : AccountFile) → r ≡ Ok d → (after : List ℕ) → ((l : List ℕ) → Holds words l → Holds after (series d.number ∷ l))
        → (more : Counts) → more ≡ file_more c → (new : Shelf) → new ≡ new_shelf d.kind
        → (today k : ℕ) → Leads sh today k (line_in f at cut.stop) (at_file from to c) words after (Some (at_group from to more new))
    unfolding on_said meet on_entry on_file counted
    file-opened d q after marks more y new z today k =
        let w : c.warnings + 0 ≡ c.warnings = omega arith in
        rw (y, z)
        (leads-on sh today k _ _ words after (at_group from to (file_more c) (new_shelf d.kind)) λ h l known. (
          h,
          series d.number ∷ l,
          record { first = known.first; last = known.last; holds = marks l known.holds; fresh = tt },
          rw w at (says sh f at k c cut cuts from to words e room r t (Ok d) q today h known.first known.last l known.holds),
        ))

-- the first three digits of a number that was read
pub series-few : (sh : Sheet) (test : ℕ → ℕ) (w : List ℕ) (r : Result AccountFile Flaw) → files.told r ≡ read_file sh test w → (d : AccountFile) → r ≡ Ok d → d.number / 1000 < 1000
series-few sh test w r t d e = series-low sh test w r t 0 0 (lined r 0 0) refl d (rw e)

-- a new account file's numbers are small
pub opened-low : (c : Counts) → LowFile c → c.files < 1000 → (kind : ℕ) (more : Counts) → more ≡ file_more c → (new : Shelf) → new ≡ new_shelf kind → LowGroup more new
opened-low c low room kind more y new z =
    rw (y, z)
    (record {
      files = omega arith;
      items = omega (arith, low.items);
      rows = omega (arith, low.rows);
      warnings = omega (arith, low.warnings);
      shelf = omega arith;
      groups = omega arith;
    })

pub file-fits : (c : Counts) → LowFile c → c.files < 1000 → (c.files < 1000) × (c.rows ≤ 200000000)
file-fits c low room = (room, omega (arith, (file-limits _ low).rows))

pub ruleset files-lead = (file-full, file-refused, file-opened, series-few, opened-low, file-fits)

-- ---- a group: r is what its line leads to

module _ (sh : Sheet) (today : ℕ) (f : List ℕ) (at stop k : ℕ) (c : Counts) (s : Shelf) (r : Result Held Refused) (opens : Opens sh today (line_in f at stop) k c s r) (from to : ℕ) where
  pub group-opened : (x : Held) → r ≡ Ok x → (words : List ℕ) → Leads sh today k (line_in f at stop) (at_group from to c s) words words (Some (at_item from to x))
  group-opened x q words =
      let o : Opens sh today (line_in f at stop) k c s (Ok x) = rw q at opens in
      leads-on sh today k _ _ words words _ λ h l known.
      (h, l, record { first = known.first; last = known.last; holds = known.holds; fresh = tt }, o.same h l)

  pub group-low : (x : Held) → r ≡ Ok x → LowItem x
  group-low x q = let o : Opens sh today (line_in f at stop) k c s (Ok x) = rw q at opens in o.low

  pub group-refused : (y : Refused) → r ≡ Err y → (words : List ℕ) → Leads sh today k (line_in f at stop) (at_group from to c s) words words None
  group-refused y q words =
      let o : Opens sh today (line_in f at stop) k c s (Err y) = rw q at opens in
      leads-halt sh today k _ _ words _ λ h l _. o.same h l

pub ruleset groups-lead = (group-opened, group-low, group-refused)

-- ---- the account file's end

module _ (sh : Sheet) (f : List ℕ) (at : ℕ) (c : Counts) (s : Shelf) (cut : Cut) (cuts : Cuts f at cut) (e : kind_of (cut_of f at cut.stop) ≡ file_end) (from to : ℕ) where
  pub end-early : s.groups ≡ 0 → (today k : ℕ) (words : List ℕ) → Leads sh today k (line_in f at cut.stop) (at_group from to c s) words words None
  unfolding step is_due pick
  end-early z today k words =
      leads-halt sh today k _ _ words _ λ h l _.
      not-due sh today k (line_in f at cut.stop) (in_file h l c s) refl file_end e (simp (eq-eqb _ _ z))

  module _ (z : s.groups ≡ 0 → ⊥) (r : Result (Unit {0}) Flaw) (t : (x : Entry) → closes.told x r ≡ read_close sh.near x (cut_of f at cut.stop)) where
    pub end_refused : (x : Flaw) → r ≡ Err x → (today k : ℕ) (words : List ℕ) → Leads sh today k (line_in f at cut.stop) (at_group from to c s) words words None
    unfolding on_said counted
    end_refused x q today k words =
        leads-halt sh today k _ _ words _ λ h l _. closed-as sh f at k c s cut cuts e z r t (Err x) q today h l

    pub file-ended : (u : Unit {0}) → r ≡ Ok u → (today k : ℕ) (words : List ℕ) → Leads sh today k (line_in f at cut.stop) (at_group from to c s) words words (Some (at_file from to c))
    unfolding on_said meet on_entry on_group counted
    file-ended u q today k words =
        let w : c.warnings + 0 ≡ c.warnings = omega arith in
        leads-on sh today k _ _ words words _ λ h l known. (
          h,
          l,
          record { first = known.first; last = known.last; holds = known.holds; fresh = tt },
          rw w at (closed-as sh f at k c s cut cuts e z r t (Ok u) q today h l),
        )

pub ended-low : (c : Counts) (s : Shelf) → LowGroup c s → LowFile c
ended-low c s low = record { files = low.files; items = omega (arith, low.items, low.shelf); rows = low.rows; warnings = low.warnings }

pub ruleset ends-lead = (end-early, end_refused, file-ended, ended-low)

-- ---- a group's end: g is what it comes to

-- as the judge's numbers
abbrev closed_to : Header → List ℕ → Result GroupEnd Refused → Tally
closed_to h l (Ok e) = in_file h l e.counts e.shelf
closed_to h l (Err y) = t_stop (No (number_of y.refusal) y.line y.byte)

closed_is : (sh : Sheet) (h : Header) (l : List ℕ) (at k : ℕ) (x : Held)
    → closed_to h l (closed_as sh.strict at k x) ≡ closed sh (book_of h l x.counts) (shelf_of x.shelf) (open_of x.opened) 0
unfolding closed_as closed pick
closed_is sh h l at k x =
    let o = x.opened in
    let d : x.counts.warnings + (0 + differs o.total o.sum) ≡ x.counts.warnings + differs o.total o.sum = omega arith in
    by-test (total_broken sh.strict o.total o.sum) (λ e. simp e refl) (λ e. simp (e, d))

-- ---- a line of a group: r is what it says

module _ (sh : Sheet) (today k : ℕ) (f : List ℕ) (at stop : ℕ) (x : Held) (r : Result Turn Refused) (turns : Turns sh today k (line_in f at stop) x r) where
  says-turn : (v : Result Turn Refused) → r ≡ v → Turns sh today k (line_in f at stop) x v
  says-turn v q = rw q at turns

  module _ (from to : ℕ) where
    pub item-more : (i : Judged) → r ≡ Ok (turn.Item i) → (more : Held) → more ≡ held_more x i.amount i.warnings
        → (words : List ℕ) → Leads sh today k (line_in f at stop) (at_item from to x) words words (Some (at_item from to more))
    item-more i q more y words =
        rw y
        (leads-on sh today k _ _ words words _ λ h l known.
        (h, l, record { first = known.first; last = known.last; holds = known.holds; fresh = tt }, (says-turn (Ok (turn.Item i)) q).same h l))

    pub item-stops : (y : Refused) → r ≡ Err y → (words : List ℕ) → Leads sh today k (line_in f at stop) (at_item from to x) words words None
    item-stops y q words = leads-halt sh today k _ _ words _ λ h l _. (says-turn (Err y) q).same h l

  -- .. its end, which comes to g, found to be v
  module _ (q : r ≡ Ok turn.Close) (a b : ℕ) (g : Result GroupEnd Refused) (y : g ≡ closed_as sh.strict a b x) where
    comes : (v : Result GroupEnd Refused) → g ≡ v → (h : Header) (l : List ℕ) → closed_to h l v ≡ step sh today k (line_in f at stop) (in_group h l x)
    comes v z h l = ap (closed_to h l) (sym z ∙ y) ∙ (closed_is sh h l a b x ∙ (says-turn (Ok turn.Close) q).same h l)

    pub item-closes : (e : GroupEnd) → g ≡ Ok e → (from to : ℕ) (words : List ℕ)
        → Leads sh today k (line_in f at stop) (at_item from to x) words words (Some (at_group from to e.counts e.shelf))
    item-closes e z from to words =
        leads-on sh today k _ _ words words _ λ h l known.
        (h, l, record { first = known.first; last = known.last; holds = known.holds; fresh = tt }, comes (Ok e) z h l)

    pub closes-low : Sane sh → LowItem x → (e : GroupEnd) → g ≡ Ok e → LowGroup e.counts e.shelf
    unfolding Small
    closes-low sane low e z =
        subst Small (sym (comes (Ok e) z no_header [])) (small-step sh sane today k (line_in f at stop) (in_group no_header [] x) low)

    pub item-broken : (n : Refused) → g ≡ Err n → (from to : ℕ) (words : List ℕ)
        → Leads sh today k (line_in f at stop) (at_item from to x) words words None
    item-broken n z from to words = leads-halt sh today k _ _ words _ λ h l _. comes (Err n) z h l

-- ---- any line: the stage was found to be what it is

-- a line that is cut off the file lies in it
module _ (f : List ℕ) (at : ℕ) (cut : Cut) (cuts : Cuts f at cut) where
  pub cut-from : at ≤ cut.stop
  cut-from = cuts.from

  pub cut-to : cut.stop ≤ length f
  cut-to = omega (arith, cuts.to, cuts.inside)

-- whatever the day, the line's number and the words are
pub whenever : (sh : Sheet) (t : Line) (x : Course) (r : Option Course) → ((today k : ℕ) (words : List ℕ) → Leads sh today k t x words words r)
    → (today k : ℕ) (words : List ℕ) → Leads sh today k t x words words r
whenever sh t x r h = h

module _ (x : Course) where
  by-stage : (sh : Sheet) (today k : ℕ) (t : Line) (before after : List ℕ) (r : Option Course) (s : Stage) → x.stage ≡ s
      → Leads sh today k t (record { from = x.from; to = x.to; stage = s }) before after r → Leads sh today k t x before after r
  by-stage sh today k t before after r s e p = rw (← e) at p

  module _ (sh : Sheet) (t : Line) (r : Option Course) where
    pub in-group : (c : Counts) (s : Shelf) → x.stage ≡ stage.Group c s → (today k : ℕ) → ((words : List ℕ) → Leads sh today k t (at_group x.from x.to c s) words words r)
        → (words : List ℕ) → Leads sh today k t x words words r
    in-group c s e today k h words = by-stage sh today k t words words r (stage.Group c s) e (h words)

    pub in-file : (c : Counts) → x.stage ≡ stage.File c → (before after : List ℕ) → ((today k : ℕ) → Leads sh today k t (at_file x.from x.to c) before after r)
        → (today k : ℕ) → Leads sh today k t x before after r
    in-file c e before after h today k = by-stage sh today k t before after r (stage.File c) e (h today k)

    pub in-first : x.stage ≡ stage.First → ((today k from to : ℕ) (words : List ℕ) → Leads sh today k t (at_first from to) words words r)
        → (today k : ℕ) (words : List ℕ) → Leads sh today k t x words words r
    in-first e h today k words = by-stage sh today k t words words r stage.First e (h today k x.from x.to words)

  module _ (low : Low x.stage) where
    pub stage-group : (c : Counts) (s : Shelf) → x.stage ≡ stage.Group c s → LowGroup c s
    stage-group c s e = let z : Low (stage.Group c s) = rw e at low in z

    pub stage-file : (c : Counts) → x.stage ≡ stage.File c → LowFile c
    stage-file c e = let z : Low (stage.File c) = rw e at low in z

pub ruleset stages = (cut-from, cut-to, in-group, in-file, in-first, stage-group, stage-file)

pub ruleset others-halt = (first-other, file-other, group-other, cut-from, cut-to, whenever)
