-- A whole group, and the line that closes an account file: where reading stands behind it. Assumes nothing.
use mathlib.Core.Path.{◌≡◌, refl, sym, ap, ◌∙◌}
use mathlib.Core.Bool.{Bool, true, false}
use mathlib.Core.List.{List}
use Prim.Native.Nat.{ℕ, ◌+◌, ◌≤◌}
use native.Mathlib.Omega.{arith}
use lib.ListN.{length}
use borrow.Author.Tests.{eq-eqb, ne_eqb}
use Rattle.std.proofs.Common.{Result, Ok, Err}
use Rattle.base.specs.Pick.{pick}
use Rattle.refusal.specs.declared.Refusal.{Refusal}
use Rattle.refusal.specs.declared.Refusal.TheVariants.{BadOrder}
use Rattle.refusal.specs.declared.Flaw.{Flaw}
use Rattle.refusal.specs.Numbers.{number_of}
use Rattle.sheet.specs.declared.Sheet.{Sheet}
use Rattle.paper.specs.Accounts.{is_nobody}
use Rattle.paper.specs.Batch.{Header}
use Rattle.paper.specs.Entries.{Entry, group, close_file, total_at, counted, group_line, file_end, kind_of, on_group, on_entry}
use Rattle.paper.specs.Terms.{day_here}
use Rattle.paper.specs.GroupLine.{read_group}
use Rattle.paper.specs.ClosingLine.{read_close}
use Rattle.paper.specs.Spells.{read_as}
use Rattle.paper.proofs.Passing.{counted-said, counted-no}
use Rattle.paper.proofs.LineSays.{asking, group-says, refusal-in, total-in}
use Rattle.paper.proofs.Starts.{kind-long}
use Rattle.scan.specs.declared.line.Cut.{Cut}
use Rattle.scan.specs.line.Cutting.{Cuts}
use Rattle.scan.proofs.line.Lines.{at-end}
use Rattle.scan.specs.declared.kind.LineKind.{LineKind}
use Rattle.scan.specs.declared.kind.LineKind.TheVariants as line
use Rattle.scan.specs.kind.Told as kinds
use Rattle.closing.specs.Told as closes
use Rattle.groupline.specs.declared.GroupLine.{GroupLine}
use Rattle.groupline.specs.Told as groups
use Rattle.tally.specs.Tally.{No, t_stop, context_of, is_due, is_full, meet, on_said, end_of, step, run}
use Rattle.judge.specs.declared.group.Counts.{Counts}
use Rattle.judge.specs.declared.group.Shelf.{Shelf}
use Rattle.judge.specs.declared.group.Held.{Held}
use Rattle.judge.specs.declared.group.GroupEnd.{GroupEnd}
use Rattle.judge.specs.declared.refused.Refused.{Refused}
use Rattle.judge.specs.refused.Lined.{refused, Within, lined}
use Rattle.judge.proofs.refused.Places.{was-ok, was-err}
use Rattle.judge.specs.group.Stands.{in_file, LowGroup, line_in, resume_group, Begun, Ended}
use Rattle.judge.proofs.group.Steps.{not-due, by-fields}
use Rattle.judge.proofs.group.Turns.{cut as cut_of, known-long, close-within, within}
use Rattle.judge.proofs.group.Going.{run-stops, run-on}
use Rattle.judge.specs.declared.accountfile.Left.{Left}
use Rattle.judge.specs.declared.accountfile.Left.TheVariants as left
use Rattle.judge.specs.accountfile.Resume.{resume, AtGroup, group_held, NewHeld, Opens, Grouped, Moved}
use Rattle.judge.proofs.accountfile.Files.{cut_inside}

-- ---- places in a line

-- a refusal's
pub group-within : (f : List ℕ) (at stop : ℕ) → at ≤ stop → stop ≤ length f → (sh : Sheet) (today : ℕ) (here : Bool) → kind_of (cut_of f at stop) ≡ group_line
    → (r : Result GroupLine Flaw) → groups.Tells (read_group sh today here (cut_of f at stop)) r → Within r at stop
group-within f at stop p q sh today here e (Ok d) t = tt
group-within f at stop p q sh today here e (Err x) t =
    let u = counted-no (read_group sh today here (cut_of f at stop)) (number_of x.0) x.1 t.says in
    within f at stop x.1 p q (refusal-in (rw (← u) at (group-says sh today (asking (λ _. 0) here (λ _. true) false) (cut_of f at stop))) (kind-long (cut_of f at stop) group_line e))

-- a group that was read, d, with the line's number
module _ (r : Result GroupLine Flaw) (k at : ℕ) (m : Result GroupLine Refused) (n : m ≡ lined r k at) (d : GroupLine) (x : m ≡ Ok d) where
  -- the total's place
  pub total-within : (f : List ℕ) (stop : ℕ) → at ≤ stop → stop ≤ length f → (sh : Sheet) (today : ℕ) (here : Bool) → kind_of (cut_of f at stop) ≡ group_line
      → groups.Tells (read_group sh today here (cut_of f at stop)) r → at + d.spot ≤ stop
  total-within f stop p q sh today here e t =
      let (w, u) = counted-said (read_group sh today here (cut_of f at stop)) {e = group t.payer d.total d.date} {p = total_at d.spot} (rw (was-ok k at r d (sym n ∙ x)) at t.says) in
      within f at stop d.spot p q (total-in (rw u at (group-says sh today (asking (λ _. 0) here (λ _. true) false) (cut_of f at stop))) (kind-long (cut_of f at stop) group_line e))

  -- a line warns once at most
  pub warns-once : groups.Low r → d.warnings ≤ 1
  warns-once low = let y : groups.Low (Ok d) = rw (was-ok k at r d (sym n ∙ x)) at low in y.1

-- an open group as the code makes it: its numbers are small
pub held_new : (c : Counts) (s : Shelf) (warnings : ℕ) (single : Bool) (date total k byte : ℕ) → LowGroup c s → warnings ≤ 1
    → NewHeld c s warnings single date total k byte
    (record {
      counts = record { files = c.files; items = c.items; rows = c.rows + 1; warnings = c.warnings + warnings };
      shelf = s;
      opened = record { single = single; date = date; total = total; line = k; byte = byte; sum = 0; count = 0 };
    })
unfolding group_held
held_new c s warnings single date total k byte low one =
    record {
      same = refl;
      low = record {
        files = low.files;
        items = low.items;
        rows = omega (arith, low.rows);
        warnings = omega (arith, low.warnings);
        shelf = low.shelf;
        groups = omega (arith, low.groups);
        sum = omega arith;
      };
    }

-- ---- a group's line: r is what it says, v the variant that this was found to be

module _ (sh : Sheet) (today : ℕ) (f : List ℕ) (at stop k : ℕ) (c : Counts) (s : Shelf) (e : kind_of (cut_of f at stop) ≡ group_line)
    (here : Bool) (where-judged : here ≡ day_here sh s.kind) (r : Result GroupLine Flaw) (t : groups.Tells (read_group sh today here (cut_of f at stop)) r) where
  said : (v : Result GroupLine Flaw) → r ≡ v → (h : Header) (l : List ℕ) → on_said sh k at (groups.told t.payer v) (in_file h l c s) ≡ step sh today k (line_in f at stop) (in_file h l c s)
  unfolding step is_due is_full context_of read_as pick
  said v q h l = by-fields sh today k (line_in f at stop) (in_file h l c s) refl group_line e refl refl _ (rw where-judged at (rw q at t.says))

  -- m is the same with the line's number and the byte in the file
  module _ (m : Result GroupLine Refused) (n : m ≡ lined r k at) where
    pub opening-refused : (y : Refused) → m ≡ Err y → Opens sh today (line_in f at stop) k c s (Err y)
    unfolding on_said
    opening-refused y q = let w = was-err k at r y (sym n ∙ q) in rw w.2 (record { same = said (Err w.0) w.1; low = tt })

    pub opening-group : (d : GroupLine) → m ≡ Ok d → (byte : ℕ) → byte ≡ at + d.spot → (x : Held) → NewHeld c s d.warnings d.single d.date d.total k byte x
        → Opens sh today (line_in f at stop) k c s (Ok x)
    unfolding on_said meet on_entry on_group group_held
    opening-group d q byte y x new =
        let z : r ≡ Ok d = was-ok k at r d (sym n ∙ q) in
        let same : x ≡ group_held c s d.warnings d.single d.date d.total k (at + d.spot) = rw y at new.same in
        let nobody : d.single ≡ is_nobody t.payer = rw z at t.single in
        record { same = λ h l. rw (same, nobody) (said (Ok d) z h l); low = new.low }

-- ---- behind a group

module _ (sh : Sheet) (today : ℕ) (f : List ℕ) (at k : ℕ) (x : Held) (g : Result GroupEnd Refused) (ended : Ended sh today f at k x g) where
  pub group-closed : (e : GroupEnd) → g ≡ Ok e → Grouped sh today f at k x (Ok (left.Group e.at e.line e.counts e.shelf))
  unfolding resume_group resume
  group-closed e q =
      let y : Ended sh today f at k x (Ok e) = rw q at ended in
      let b = y.behind in
      record { same = y.same; good = record { inside = b.1; lines = b.2; low = b.3 }; less = omega (arith, b.0, b.1) }

  pub group-stopped : (z : Refused) → g ≡ Err z → Grouped sh today f at k x (Err z)
  unfolding resume_group resume
  group-stopped z q =
      let y : Ended sh today f at k x (Err z) = rw q at ended in
      record { same = y.same; good = tt; less = omega arith }

-- ---- the file ends early

pub group-ends : (sh : Sheet) (today : ℕ) (f : List ℕ) (at k : ℕ) (c : Counts) (s : Shelf) → AtGroup f at k c s → length f ≤ at
    → Moved sh today f (Ok (left.Group at k c s)) (refused BadOrder k at)
unfolding resume run end_of
group-ends sh today f at k c s good e =
    let z : at ≡ length f = omega (arith, good.inside) in
    record { same = λ h l. rw (at-end f at e) (simp z); good = tt; less = omega arith }

-- whatever today is
pub any-day : (sh : Sheet) (f : List ℕ) (o r : Result Left Refused) → ((today : ℕ) → Moved sh today f o r) → (today : ℕ) → Moved sh today f o r
any-day sh f o r m today = m today

module _ (sh : Sheet) (f : List ℕ) (at k : ℕ) (c : Counts) (s : Shelf) (cut : Cut) (cuts : Cuts f at cut) where
  -- a line that is refused
  stops : (today : ℕ) (r : Refusal) (byte : ℕ) → ((h : Header) (l : List ℕ) → t_stop (No (number_of r) k byte) ≡ step sh today k (line_in f at cut.stop) (in_file h l c s))
      → Moved sh today f (Ok (left.Group at k c s)) (refused r k byte)
  unfolding resume
  stops today r byte e =
      record {
        same = λ h l. run-stops sh today (length f) k f at cut cuts (in_file h l c s) (No (number_of r) k byte) (e h l);
        good = tt;
        less = omega arith;
      }

  undue : (h : Header) (l : List ℕ) (r : LineKind) → (r ≡ line.Group → ⊥) → (r ≡ line.FileEnd → ⊥) → is_due (in_file h l c s) (kinds.told r) ≡ false
  unfolding is_due pick
  undue h l line.Head i g = refl
  undue h l line.File i g = refl
  undue h l line.Group i g = absurd (i refl)
  undue h l line.Item i g = refl
  undue h l line.GroupEnd i g = refl
  undue h l line.FileEnd i g = absurd (g refl)

  -- out of turn: r is the kind that was found
  pub group-other : (today : ℕ) (r : LineKind) → kinds.told r ≡ kind_of (cut_of f at cut.stop) → (r ≡ line.Group → ⊥) → (r ≡ line.FileEnd → ⊥)
      → Moved sh today f (Ok (left.Group at k c s)) (refused BadOrder k at)
  unfolding step
  group-other today r t i g =
      stops today BadOrder at λ h l.
      not-due sh today k (line_in f at cut.stop) (in_file h l c s) refl (kinds.told r) (sym t) (undue h l r i g)

  -- a group: r is what its line leads to
  module _ (today : ℕ) (r : Result Held Refused) (opens : Opens sh today (line_in f at cut.stop) k c s r) where
    pub group-refused : (y : Refused) → r ≡ Err y → Moved sh today f (Ok (left.Group at k c s)) (Err y)
    unfolding resume
    group-refused y q =
        let o : Opens sh today (line_in f at cut.stop) k c s (Err y) = rw q at opens in
        record {
          same = λ h l. run-stops sh today (length f) k f at cut cuts (in_file h l c s) (No (number_of y.refusal) y.line y.byte) (o.same h l);
          good = tt;
          less = omega arith;
        }

    module _ (x : Held) (q : r ≡ Ok x) where
      opened : Opens sh today (line_in f at cut.stop) k c s (Ok x)
      opened = rw q at opens

      -- its lines may be read
      pub group-begun : AtGroup f at k c s → Begun f cut.next (k + 1) x
      group-begun good = record { inside = cuts.inside; lines = omega (arith, good.lines, cuts.ahead); low = opened.low }

      pub group-moved : (g : Result Left Refused) → Grouped sh today f cut.next (k + 1) x g → Moved sh today f (Ok (left.Group at k c s)) g
      unfolding resume
      group-moved g behind =
          record {
            same = λ h l. behind.same h l ∙ run-on sh today (length f) k f at cut cuts (in_file h l c s) _ (opened.same h l);
            good = behind.good;
            less = omega (arith, behind.less, cuts.ahead, cuts.inside);
          }

  -- the account file's end: r is what its line says, v the variant that this was found to be
  module _ (e : kind_of (cut_of f at cut.stop) ≡ file_end) where
    -- there is no group yet
    pub file-empty : s.groups ≡ 0 → (today : ℕ) → Moved sh today f (Ok (left.Group at k c s)) (refused BadOrder k at)
    unfolding step is_due pick
    file-empty z today =
        stops today BadOrder at λ h l.
        not-due sh today k (line_in f at cut.stop) (in_file h l c s) refl file_end e (simp (eq-eqb _ _ z))

    module _ (z : s.groups ≡ 0 → ⊥) (r : Result (Unit {0}) Flaw) (t : (x : Entry) → closes.told x r ≡ read_close sh.near x (cut_of f at cut.stop)) where
      pub closed-as : (v : Result (Unit {0}) Flaw) → r ≡ v → (today : ℕ) (h : Header) (l : List ℕ) → on_said sh k at (counted (closes.told close_file v)) (in_file h l c s) ≡ step sh today k (line_in f at cut.stop) (in_file h l c s)
      unfolding step is_due is_full read_as pick
      closed-as v q today h l = by-fields sh today k (line_in f at cut.stop) (in_file h l c s) refl file_end e (simp (ne_eqb _ _ z)) refl _ (ap counted (rw q at (t close_file)))

      -- m is the same with the line's number and the byte in the file
      module _ (m : Result (Unit {0}) Refused) (n : m ≡ lined r k at) where
        pub file-end-refused : (y : Refused) → m ≡ Err y → (today : ℕ) → Moved sh today f (Ok (left.Group at k c s)) (Err y)
        unfolding on_said counted
        file-end-refused y q today = let w = was-err k at r y (sym n ∙ q) in rw w.2 (stops today w.0.0 (at + w.0.1) (closed-as (Err w.0) w.1 today))

        pub file-closed : AtGroup f at k c s → (u : Unit {0}) → m ≡ Ok u → (today : ℕ) → Moved sh today f (Ok (left.Group at k c s)) (Ok (left.File cut.next (k + 1) c))
        unfolding resume on_said meet on_entry on_group counted
        file-closed good u q today =
            let w : c.warnings + 0 ≡ c.warnings = omega arith in
            record {
              same = λ h l. run-on sh today (length f) k f at cut cuts (in_file h l c s) _ (rw w at (closed-as (Ok u) (was-ok k at r u (sym n ∙ q)) today h l));
              good = record {
                inside = cuts.inside;
                lines = omega (arith, good.lines, cuts.ahead);
                low = record {
                  files = good.low.files;
                  items = omega (arith, good.low.items, good.low.shelf);
                  rows = good.low.rows;
                  warnings = good.low.warnings;
                };
              };
              less = omega (arith, cuts.ahead, cuts.inside);
            }

pub ruleset group-places = (group-within, total-within, warns-once, known-long)

pub ruleset openings = (opening-refused, opening-group)

pub ruleset behind-group = (group-closed, group-stopped)

pub ruleset group_lines = (group-ends, any-day, group-other, group-refused, group-begun, group-moved)

pub ruleset file-closings = (file-empty, file-end-refused, file-closed)

pub ruleset closing-places = (cut_inside, close-within)
