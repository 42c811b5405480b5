-- How the functions of writing end: from what a function is told to what it has to tell. Assumes nothing.
use Rattle.std.proofs.Common.{Option, Some, None}
use mathlib.Core.Path.{◌≡◌, refl, sym, ap, ◌∙◌}
use mathlib.Core.Bool.{Bool, true, false, not}
use mathlib.Core.List.{List}
use Prim.Native.Nat.{ℕ, ◌+◌, ◌≤◌, ◌<◌}
use lib.ListN.{length}
use borrow.Author.Tests.{le-leb, lt-leb, not-true, not-false}
use Rattle.base.specs.Pick.{pick}
use Rattle.base.specs.Put.{Wrote}
use Rattle.sheet.specs.declared.Sheet.{Sheet}
use Rattle.sheet.specs.Sheets.{sheet_of}
use Rattle.paper.specs.Days.{real_day}
use Rattle.paper.specs.Batch.{Header, Thing, batch_of}
use Rattle.paper.specs.Proper.{Verdict, fine, wrong, check, need_file, header_proper, batch_proper}
use Rattle.paper.specs.Carried.{header_carried}
use Rattle.paper.specs.FirstLine.{spell_first}
use Rattle.paper.specs.Rows.{rows_in, things_in}
use Rattle.paper.specs.Canonical.{canon}
use Rattle.paper.specs.Writing.{Draft, on_verdict, draft_of, draft_with, draft, WriteAnswer, written_in, output_after}
use Rattle.roundtrip.specs.flat.Flat.{line_of, flat}
use Rattle.std.proofs.Common.{Result, Ok, Err}
use Rattle.refusal.specs.declared.Refusal.{Refusal}
use Rattle.refusal.specs.declared.Refusal.TheVariants as why
use Rattle.refusal.specs.Numbers.{number_of}
use Rattle.rows.specs.declared.field.Field.{Field}
use Rattle.rows.specs.declared.field.Wrong.{Wrong}
use Rattle.rows.specs.field.Numbers.{number_of as field_number}
use Rattle.rows.specs.read.After.{after}
use Rattle.survey.specs.declared.state.Found.{Found}
use Rattle.survey.specs.declared.Unwritable.{Unwritable}
use Rattle.survey.specs.declared.Unwritable.TheVariants.{NotABatch, NotCarried}
use Rattle.survey.specs.Told.{told as surveyed_as, judged as surveyed}
use Rattle.write.specs.declared.Refused.{Refused}
use Rattle.write.specs.Told.{refused_at, counted_as, Named, before, Tells, rows_draft}
use Rattle.write.proofs.Laws as laws

-- ---- 21 of the header

module _ (sh : Sheet) (from to : ℕ) where
  pub no-header : not sh.header ≡ true → (h : Header) → h.from ≡ from → h.to ≡ to → fine ≡ pick sh.header (header_carried sh.interval h) fine
  unfolding pick
  no-header e h f t = rw (not-true sh.header e)

  pub no_interval : not sh.header ≡ false → sh.interval ≡ false → (h : Header) → h.from ≡ from → h.to ≡ to → fine ≡ pick sh.header (header_carried sh.interval h) fine
  unfolding pick header_carried check
  no_interval e i h f t = rw (not-false sh.header e, i)

  pub interval-wrong : not sh.header ≡ false → sh.interval ≡ true → to < from → (h : Header) → h.from ≡ from → h.to ≡ to
      → wrong 0 5 ≡ pick sh.header (header_carried sh.interval h) fine
  unfolding pick header_carried check
  interval-wrong e i l h f t = rw (not-false sh.header e, i, f, t, lt-leb _ _ l)

  pub interval-fine : not sh.header ≡ false → sh.interval ≡ true → from ≤ to → (h : Header) → h.from ≡ from → h.to ≡ to
      → fine ≡ pick sh.header (header_carried sh.interval h) fine
  unfolding pick header_carried check
  interval-fine e i l h f t = rw (not-false sh.header e, i, f, t, le-leb _ _ l)

pub ruleset interval = (no-header, no_interval, interval-wrong, interval-fine)

-- c is what the header's test answered
module _ (c : Result (Unit {0}) Field) (v : Verdict) (g : after 0 c fine ≡ v) where
  pub found : (r : Refusal) (f : Field) (d : Draft) → c ≡ Err f → (at : Found) → at.row ≡ 0 → at.field ≡ field_number f
      → Tells (Err (record { refusal = r; at = at })) (on_verdict (number_of r) v d)
  unfolding Tells on_verdict
  found r f d e at row field =
      let w : v ≡ wrong 0 (field_number f) = sym g ∙ ap (λ (x : Result (Unit {0}) Field). after 0 x fine) e in
      rw (w, row, field)

  passed : c ≡ Ok tt → fine ≡ v
  passed e = sym (ap (λ (x : Result (Unit {0}) Field). after 0 x fine) e) ∙ g

  pub next-is : (n : ℕ) (d : Draft) (next : Result ℕ Refused) → c ≡ Ok tt → Tells next d → Tells next (on_verdict n v d)
  unfolding on_verdict
  next-is n d next e h = rw (← passed e) h

module _ (sh : Sheet) (from to : ℕ) (next : Result ℕ Refused) (c : Result (Unit {0}) Field) (g : (h : Header) → h.from ≡ from → h.to ≡ to → after 0 c fine ≡ pick sh.header (header_carried sh.interval h) fine) where
  pub carry-found : (f : Field) → c ≡ Err f → (at : Found) → at.row ≡ 0 → at.field ≡ field_number f
      → (h : Header) (d : Draft) → h.from ≡ from → h.to ≡ to → Tells next d
      → Tells (Err (record { refusal = why.NotCarried; at = at })) (on_verdict 21 (pick sh.header (header_carried sh.interval h) fine) d)
  carry-found f e at row field h d from to n = found c _ (g h from to) why.NotCarried f d e at row field

  pub carry-next : c ≡ Ok tt → (h : Header) (d : Draft) → h.from ≡ from → h.to ≡ to → Tells next d
      → Tells next (on_verdict 21 (pick sh.header (header_carried sh.interval h) fine) d)
  carry-next e h d f t n = next-is c _ (g h f t) 21 d next e n

pub ruleset carrying = (carry-found, carry-next)

-- ---- the rows

module _ (sh : Sheet) (today from to : ℕ) (ts : List Thing) (s : Result ℕ Unwritable) (g : (h : Header) → h.from ≡ from → h.to ≡ to → surveyed_as s ≡ surveyed sh today h ts) where
  -- what all headers with this interval are judged to be
  abbrev pub Judges : Result ℕ Refused → Type 0
  Judges r = (h : Header) → h.from ≡ from → h.to ≡ to → Named sh h → Tells r (rows_draft sh today h ts)

  -- and what is said of them where 21 of the header may come before
  abbrev pub Before : Result ℕ Refused → Result ℕ Refused → Type 0
  Before next r =
      (h : Header) (d : Draft) → h.from ≡ from → h.to ≡ to → Tells next d → Tells r (on_verdict 21 (pick sh.header (header_carried sh.interval h) fine) d)

  pub row-improper : (u : Unwritable) → s ≡ Err u → (w : Wrong) → u ≡ NotABatch w → (at : Found) → at.row ≡ w.row → at.field ≡ field_number w.field
      → Judges (Err (record { refusal = why.NotABatch; at = at }))
  row-improper u e w i at row field h f t _ = laws.rows-improper sh today h ts at (rw (row, field) (sym (ap surveyed_as (e ∙ ap Err i)) ∙ g h f t))

  pub row-unfit : (u : Unwritable) → s ≡ Err u → (w : Found) → u ≡ NotCarried w → (r : Result ℕ Refused)
      → Before (Err (record { refusal = why.NotCarried; at = w })) r → Judges r
  row-unfit u e w i r k h f t _ = laws.rows-unfit sh today h ts w (sym (ap surveyed_as (e ∙ ap Err i)) ∙ g h f t) r (λ d. k h d f t)

  pub rows_fit : (c : ℕ) → s ≡ Ok c → (n : ℕ) → ((h : Header) → Named sh h → n ≡ length (spell_first sh h) + 2 + c) → (r : Result ℕ Refused) → Before (Ok n) r → Judges r
  rows_fit c e n l r k h f t named = laws.rows_fit sh today h ts n c (l h named) (sym (ap surveyed_as e) ∙ g h f t) r (λ d. k h d f t)

-- the first line, and what stands behind it
pub whole_length : (sh : Sheet) (n rest : ℕ) → ((h : Header) → length h.name ≡ 20 → n ≡ length (spell_first sh h))
    → (h : Header) → Named sh h → n + 2 + rest ≡ length (spell_first sh h) + 2 + rest
whole_length sh n rest f h named = rw (laws.first-length sh n f h named)

pub ruleset judging = (row-improper, row-unfit, rows_fit)

-- ---- the batch

module _ (sh : Sheet) (today : ℕ) (h : Header) (ts : List Thing) (c : Result (Unit {0}) Field) (g : after 0 c fine ≡ pick sh.header (header_proper h) fine) where
  pub head-wrong : (f : Field) → c ≡ Err f → (at : Found) → at.row ≡ 0 → at.field ≡ field_number f → Tells (Err (record { refusal = why.NotABatch; at = at })) (draft_of sh today h ts)
  unfolding draft_of
  head-wrong f e = found c _ g why.NotABatch f _ e

  pub head-fine : c ≡ Ok tt → (r : Result ℕ Refused)
      → ((k : Header) → k.from ≡ h.from → k.to ≡ h.to → Named sh k → Tells r (rows_draft sh today k ts)) → Tells r (draft_of sh today h ts)
  unfolding draft_of rows_draft
  head-fine e r f = next-is c _ g 20 _ r e (f h refl refl (laws.named sh h (passed c _ g e)))

pub ruleset heading = (head-wrong, head-fine)

-- ---- the output

module _ (sh : Sheet) (h : Header) (ts : List Thing) (p : batch_proper ts ≡ fine) (o : List ℕ) (l : length (canon sh h (batch_of ts)) ≤ length o) where
  pub first-room : 0 + length (line_of (spell_first sh h)) ≤ length o
  first-room = laws.first-room sh h ts p o l

  module _ (o1 : List ℕ) (at : ℕ) (v : Wrote o 0 (line_of (spell_first sh h)) o1 at) where
    pub rest-room : at + length (flat sh need_file ts) ≤ length o1
    rest-room = laws.rest-room sh h ts p o o1 at l v

    pub file-put : (o2 : List ℕ) (r : ℕ) → Wrote o1 at (flat sh need_file ts) o2 r → o2 ≡ before (canon sh h (batch_of ts)) o
    file-put o2 r w = laws.file-put sh h ts p o o1 o2 at r v w

pub ruleset putting = (first-room, rest-room, file-put)

module _ (sh : Sheet) (today : ℕ) (h : Header) (ts : List Thing) (n : ℕ) (e : Tells (Ok n) (draft_of sh today h ts)) where
  pub short : (a : WriteAnswer) (room : ℕ) → room < n → a ≡ counted_as 16 n → a ≡ written_in room (draft_of sh today h ts)
  short a room l g = g ∙ laws.short-answer sh today h ts n e room l

  pub full : (a : WriteAnswer) (room : ℕ) → n ≤ room → a ≡ counted_as 0 n → a ≡ written_in room (draft_of sh today h ts)
  full a room l g = g ∙ laws.full-answer sh today h ts n e room l

  pub full-output : (o p : List ℕ) → n ≤ length o → p ≡ before (canon sh h (batch_of ts)) o → p ≡ output_after o (draft_of sh today h ts)
  full-output o p l g = g ∙ laws.full-output sh today h ts n e o l

pub ruleset accepting = (laws.proper-rows, short, laws.short-output, laws.full-room, full, full-output)

-- ---- the day and the sheet

module _ (sh : Sheet) (today : ℕ) (h : Header) (ts : List Thing) (a : WriteAnswer) (room : ℕ) (o p : List ℕ) where
  module _ (t : Bool) (g : t ≡ real_day today) where
    on-day : t ≡ true → draft_of sh today h ts ≡ draft_with (Some sh) today h ts
    unfolding draft_with pick
    on-day e = rw (← g, e)

    pub day-answer : t ≡ true → a ≡ written_in room (draft_of sh today h ts) → a ≡ written_in room (draft_with (Some sh) today h ts)
    day-answer e k = k ∙ ap (written_in room) (on-day e)

    pub day-output : t ≡ true → p ≡ output_after o (draft_of sh today h ts) → p ≡ output_after o (draft_with (Some sh) today h ts)
    day-output e k = k ∙ ap (output_after o) (on-day e)

    pub no_day : t ≡ false → a ≡ refused_at 2 0 0 → a ≡ written_in room (draft_with (Some sh) today h ts)
    unfolding draft_with written_in pick
    no_day e k = k ∙ rw (← g, e)

    pub no-day-output : t ≡ false → o ≡ output_after o (draft_with (Some sh) today h ts)
    unfolding draft_with output_after pick
    no-day-output e = rw (← g, e)

  -- j is what the batch was judged to be
  module _ (j : Result ℕ Refused) (g : Tells j (draft_of sh today h ts)) where
    pub refused : (r : Refused) → j ≡ Err r → a ≡ refused_at (number_of r.refusal) r.at.row r.at.field → a ≡ written_in room (draft_of sh today h ts)
    refused r e k = k ∙ laws.refused-answer r _ (rw e at g) room

    pub refused-output : (r : Refused) → j ≡ Err r → o ≡ output_after o (draft_of sh today h ts)
    refused-output r e = laws.refused-output r _ (rw e at g) o

pub ruleset days = (day-answer, day-output, no_day, no-day-output, refused, refused-output)

-- r is the sheet that the number names
module _ (r : Option Sheet) (n : ℕ) (g : r ≡ sheet_of n) where
  module _ (today : ℕ) (h : Header) (rows texts : List ℕ) (a : WriteAnswer) (room : ℕ) (o p : List ℕ) where
    on-sheet : (sh : Sheet) → r ≡ Some sh → draft_with (Some sh) today h (things_in texts (rows_in rows)) ≡ draft n today h rows texts
    unfolding draft
    on-sheet sh e = rw (← g, e)

    pub sheet-answer : (sh : Sheet) → r ≡ Some sh → a ≡ written_in room (draft_with (Some sh) today h (things_in texts (rows_in rows)))
        → a ≡ written_in room (draft n today h rows texts)
    sheet-answer sh e k = k ∙ ap (written_in room) (on-sheet sh e)

    pub sheet-output : (sh : Sheet) → r ≡ Some sh → p ≡ output_after o (draft_with (Some sh) today h (things_in texts (rows_in rows)))
        → p ≡ output_after o (draft n today h rows texts)
    sheet-output sh e k = k ∙ ap (output_after o) (on-sheet sh e)

    -- 1: the number names none
    pub no_sheet : r ≡ None → a ≡ refused_at 1 0 0 → a ≡ written_in room (draft n today h rows texts)
    unfolding draft draft_with written_in
    no_sheet e k = k ∙ rw (← g, e)

    pub no-sheet-output : r ≡ None → o ≡ output_after o (draft n today h rows texts)
    unfolding draft draft_with output_after
    no-sheet-output e = rw (← g, e)

pub ruleset sheets = (sheet-answer, sheet-output, no_sheet, no-sheet-output)
