-- Judging on, row by row: the outcome of all rows stays, the place moves on, and the numbers stay small. Assumes nothing.
use mathlib.Core.Path.{◌≡◌, refl, sym, ap, ◌∙◌}
use mathlib.Core.List.{List, [], ◌∷◌}
use Prim.Native.Nat.{ℕ, ◌+◌, ◌*◌, ◌≤◌, ◌<◌}
use native.Mathlib.Nat.{zero-add}
use native.Mathlib.Omega.{arith}
use lib.ListN.{length, drop}
use Rattle.std.proofs.Common.{◌/◌, Option, Result, Ok, Err}
use Rattle.sheet.specs.declared.Sheet.{Sheet}
use Rattle.paper.specs.Batch.{Header, Thing}
use Rattle.paper.specs.Proper as paper
use Rattle.paper.specs.Proper.{need_file, batch_proper}
use Rattle.paper.specs.Carried.{Place, at_start, behind_group, behind_item, rows_carried, batch_carried}
use Rattle.base.specs.Pick.{pick}
use Rattle.paper.specs.Terms.{collection, bank_due}
use Rattle.paper.specs.Words.{words}
use Rattle.paper.specs.Rows.{rows_in, thing_in, things_in}
use Rattle.calendar.specs.declared.term.Banks.{Banks}
use Rattle.calendar.specs.declared.term.Banks.TheVariants.{Any}
use Rattle.fileline.specs.seen.Bits.{Holds}
use Rattle.rows.specs.declared.field.Field.{Field}
use Rattle.rows.specs.declared.field.Field.TheVariants.{Row}
use Rattle.rows.specs.list.From.{things_from}
use Rattle.rows.specs.declared.read.Row as read
use Rattle.rows.specs.read.Told.{told as told_row}
use Rattle.rows.specs.walk.Walks.{before_of}
use Rattle.rows.proofs.list.From.{things-step, things-end, things-rest}
use Rattle.survey.specs.declared.state.State.{State}
use Rattle.survey.specs.declared.state.Step.{Step}
use Rattle.survey.specs.declared.state.Step.TheVariants as step
use Rattle.survey.specs.state.Stands.{Starts, resume}
use Rattle.survey.specs.state.Known.{Due, Known}
use Rattle.survey.specs.state.Low.{Low, LowStep}
use Rattle.survey.specs.state.Goes.{behind_series, Goes}
use Rattle.survey.specs.step.Steps.{StepsRead}
use Rattle.survey.proofs.state.Small.{kept-none}
use Rattle.survey.proofs.state.Judging.{goes-strange}
use Rattle.survey.proofs.state.Bounds.{low-start}
use Rattle.survey.proofs.step.Rows.{stepped}
use Rattle.survey.specs.declared.Unwritable.{Unwritable}
use Rattle.survey.specs.declared.Unwritable.TheVariants.{NotABatch}
use Rattle.survey.specs.Told.{told, judged}

-- the outcome of all rows is that of the first row on
all-rows : (sh : Sheet) (today : ℕ) (h : Header) (ts : List Thing) (st : State) → Starts st → resume sh today h 1 at_start st ts ≡ judged sh today h ts
unfolding resume judged batch_proper batch_carried
all-rows sh today h ts st s =
    let stage : (before_of st.before).stage ≡ need_file = ap (λ (p : paper.Before). p.stage) s.before in
    let sum : st.before.sum ≡ 0 = ap (λ (p : paper.Before). p.sum) s.before in
    rw (s.before, stage, sum, s.bytes, kept-none st.found (rows_carried sh today h 1 at_start ts) s.found, zero-add)

-- judging stands before row i + 1, and of the rows' place the code knows these
pub record Going (sh : Sheet) (today from to : ℕ) (texts rows : List ℕ) (i all kind : ℕ) (banks : Banks) (seen : List ℕ) (st : State) : Type 0 where
  pub inside : i * 192 ≤ length rows
  pub low : Low (i + 1) st
  pub fewer : all ≤ i
  pub place : Place
  pub known : Known sh today all kind banks seen place
  pub same : (h : Header) → h.from ≡ from → h.to ≡ to
      → resume sh today h (i + 1) place st (things_from texts rows (i * 192)) ≡ judged sh today h (things_in texts (rows_in rows))

-- r is the whole answer
abbrev Answers : Sheet → ℕ → ℕ → ℕ → List ℕ → List ℕ → Result ℕ Unwritable → Type 0
Answers sh today from to texts rows r = (h : Header) → h.from ≡ from → h.to ≡ to → told r ≡ judged sh today h (things_in texts (rows_in rows))

-- where no kind is known, any bank may be due
due-start : (sh : Sheet) (today : ℕ) → Due sh today Any 0 0
unfolding bank_due collection pick
due-start sh today bank = refl

module _ (sh : Sheet) (today from to : ℕ) (texts rows : List ℕ) where
  pub going_start : (seen : List ℕ) → Holds seen [] → (st : State) → Starts st → Going sh today from to texts rows 0 0 0 Any seen st
  going_start seen e st s =
      record {
        inside = omega arith;
        low = low-start st s;
        fewer = omega arith;
        place = at_start;
        known = record { items = refl; within = refl; due = due-start sh today; earlier = e };
        same = λ h f t. all-rows sh today h (things_in texts (rows_in rows)) st s;
      }

-- what a row's step says of row i + 1
abbrev Stepped : Sheet → ℕ → ℕ → ℕ → List ℕ → List ℕ → ℕ → ℕ → ℕ → Banks → List ℕ → State → Result Step Field → Type 0
Stepped sh today from to texts rows i all kind banks seen st r =
    (h : Header) (p : Place) → h.from ≡ from → h.to ≡ to → Known sh today all kind banks seen p
    → Goes sh today h p (i + 1) st (thing_in texts (words 24 (drop (i * 192) rows))) r

module _ {sh : Sheet} {today from to : ℕ} {texts rows : List ℕ} {i all kind : ℕ} {banks : Banks} {seen : List ℕ} {st : State}
    (going : Going sh today from to texts rows i all kind banks seen st) where
  module _ (test : i < length rows / 192) (row : Option read.Row) (read : (t : List ℕ) → told_row t row ≡ thing_in t (words 24 (drop (i * 192) rows)))
      (r : Result Step Field) (steps : StepsRead sh today from to all kind banks seen (i + 1) st texts row r) where
    small : LowStep (i + 1) r
    small = (stepped steps _ read).0

    goes : Stepped sh today from to texts rows i all kind banks seen st r
    goes = (stepped steps _ read).1

    room : i * 192 + 192 ≤ length rows
    room = omega arith

    -- where the next row begins
    next-place : (i + 1) * 192 ≡ i * 192 + 192
    next-place = omega arith

    -- the outcome where the row stands is that of all rows
    whole : (h : Header) → h.from ≡ from → h.to ≡ to
        → resume sh today h (i + 1) going.place st (thing_in texts (words 24 (drop (i * 192) rows)) ∷ things_from texts rows (i * 192 + 192))
        ≡ judged sh today h (things_in texts (rows_in rows))
    whole h f t = ap (resume sh today h (i + 1) going.place st) (sym (things-step rows (i * 192) texts room)) ∙ going.same h f t

    pub going-item : (s : Step) → r ≡ Ok s → (next : State) → s ≡ step.Item next → Going sh today from to texts rows (i + 1) (all + 1) kind banks seen next
    going-item s came next is =
        let e : r ≡ Ok (step.Item next) = came ∙ ap Ok is in
        let here : Stepped sh today from to texts rows i all kind banks seen st (Ok (step.Item next)) = rw e at goes in
        let still : LowStep (i + 1) (Ok (step.Item next)) = rw e at small in
        record {
          inside = omega (arith, room);
          low = still;
          fewer = omega (arith, going.fewer);
          place = behind_item going.place;
          known =
              record {
                items = omega (arith, going.known.items);
                within = going.known.within;
                due = going.known.due;
                earlier = going.known.earlier;
              };
          same = λ h f t. rw next-place (here h going.place f t going.known (things_from texts rows (i * 192 + 192)) ∙ whole h f t);
        }

    -- behind a group, with the banks of its day
    pub going-group : (s : Step) → r ≡ Ok s → (next : State) (date : ℕ) → s ≡ step.Group next date → (now : Banks) → Due sh today now kind date
        → Going sh today from to texts rows (i + 1) all kind now seen next
    going-group s came next date is now due =
        let e : r ≡ Ok (step.Group next date) = came ∙ ap Ok is in
        let here : Stepped sh today from to texts rows i all kind banks seen st (Ok (step.Group next date)) = rw e at goes in
        let still : LowStep (i + 1) (Ok (step.Group next date)) = rw e at small in
        record {
          inside = omega (arith, room);
          low = still;
          fewer = omega (arith, going.fewer);
          place = behind_group going.place date;
          known =
              record {
                items = going.known.items;
                within = going.known.within;
                due = rw going.known.within due;
                earlier = going.known.earlier;
              };
          same = λ h f t. rw next-place (here h going.place f t going.known (things_from texts rows (i * 192 + 192)) ∙ whole h f t);
        }

    -- behind an account file, with its number in the set
    pub going-file : (s : Step) → r ≡ Ok s → (next : State) (other first : ℕ) → s ≡ step.File next other first → (now : Banks) → Due sh today now other 0
        → (after : List ℕ) → ((l : List ℕ) → Holds seen l → Holds after (first ∷ l))
        → Going sh today from to texts rows (i + 1) all other now after next
    going-file s came next other first is now due after with =
        let e : r ≡ Ok (step.File next other first) = came ∙ ap Ok is in
        let here : Stepped sh today from to texts rows i all kind banks seen st (Ok (step.File next other first)) = rw e at goes in
        let still : LowStep (i + 1) (Ok (step.File next other first)) = rw e at small in
        record {
          inside = omega (arith, room);
          low = still.0;
          fewer = omega (arith, going.fewer);
          place = behind_series going.place other first;
          known = record { items = going.known.items; within = refl; due = due; earlier = with going.place.seen going.known.earlier };
          same = λ h f t. rw next-place (here h going.place f t going.known (things_from texts rows (i * 192 + 192)) ∙ whole h f t);
        }

    pub going-wrong : (field : Field) → r ≡ Err field → Answers sh today from to texts rows (Err (NotABatch (record { row = i + 1; field = field })))
    going-wrong field e h f t =
        let here : Stepped sh today from to texts rows i all kind banks seen st (Err field) = rw e at goes in
        here h going.place f t going.known (things_from texts rows (i * 192 + 192)) ∙ whole h f t

  -- all whole rows are behind it
  module _ (last : i ≡ length rows / 192) where
    -- bytes that are no whole row
    pub going-rest : i * 192 < length rows → Answers sh today from to texts rows (Err (NotABatch (record { row = i + 1; field = Row })))
    going-rest p h f t =
        goes-strange sh today h going.place (i + 1) st []
        ∙ (ap (resume sh today h (i + 1) going.place st) (sym (things-rest rows (i * 192) texts p (omega arith))) ∙ going.same h f t)

    pub going_end : length rows ≤ i * 192 → (r : Result ℕ Unwritable) → ((sh : Sheet) (today : ℕ) (h : Header) (p : Place) → told r ≡ resume sh today h (i + 1) p st [])
        → Answers sh today from to texts rows r
    going_end p r e h f t =
        e sh today h going.place
        ∙ (ap (resume sh today h (i + 1) going.place st) (sym (things-end rows (i * 192) texts p)) ∙ going.same h f t)

pub ruleset goings = (going_start, going-item, going-group, going-file, going-wrong, going-rest, going_end)
