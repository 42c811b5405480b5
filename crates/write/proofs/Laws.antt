-- From what the header and the rows are judged to be to the draft, and from the draft to the answer and the output. Assumes nothing.
use mathlib.Core.Path.{◌≡◌, refl, sym, ap, ◌∙◌}
use mathlib.Core.Bool.{Bool, true, false}
use mathlib.Core.List.{List}
use Prim.Native.Nat.{ℕ, ◌+◌, ◌≤◌, ◌<◌}
use native.Mathlib.Nat.{zero-add}
use native.Mathlib.Omega.{arith}
use lib.ListN.{length, length-append}
use borrow.Author.Tests.{lt-ltb, le-ltb}
use Rattle.base.specs.Pick.{pick}
use Rattle.base.specs.Put.{put, Wrote}
use Rattle.base.proofs.Put.{length-put, ◌then◌}
use Rattle.sheet.specs.declared.Sheet.{Sheet}
use Rattle.paper.specs.Batch.{Header, Thing, batch_of, no_header}
use Rattle.paper.specs.Proper.{need_file, Verdict, fine, wrong, header_proper, batch_proper}
use Rattle.paper.specs.Carried.{header_carried, batch_carried}
use Rattle.paper.specs.FirstLine.{spell_first}
use Rattle.paper.specs.Canonical.{canon}
use Rattle.paper.specs.Writing.{Draft, drafted, on_verdict, draft_of, written_in, output_after}
use Rattle.paper.proofs.Verdicts.{headed}
use Rattle.roundtrip.proofs.linesound.FirstLine.{headless}
use Rattle.roundtrip.specs.flat.Flat.{line_of, flat}
use Rattle.roundtrip.proofs.flat.Canon.{canon-flat}
use Rattle.roundtrip.proofs.flat.Lengths.{canon-length}
use Rattle.survey.specs.declared.state.Found.{Found}
use Rattle.survey.specs.state.Stands.{improper, unfit, fits, survey_of}
use Rattle.survey.specs.Told.{judged as surveyed}
use Rattle.std.proofs.Common.{Result, Ok, Err}
use Rattle.refusal.specs.declared.Refusal.TheVariants.{NotABatch, NotCarried}
use Rattle.refusal.specs.Numbers.{number_of}
use Rattle.write.specs.declared.Refused.{Refused}
use Rattle.write.specs.Told.{refused_at, counted_as, Named, before, Tells, rows_draft}

-- ---- what the rows are judged to be, turned round

pub improper-rows : (p q : Verdict) (n row field : ℕ) → improper row field ≡ survey_of p q n → p ≡ wrong row field
unfolding survey_of
improper-rows (wrong k f) q n row field e =
    let x : k ≡ row = cc in
    let y : f ≡ field = cc in
    rw (x, y)
improper-rows fine (wrong k f) n row field e = absurd (let z : ◌≡◌ {A = ℕ} 0 1 = cc in omega arith)
improper-rows fine fine n row field e = absurd (let z : ◌≡◌ {A = ℕ} 0 1 = cc in omega arith)

pub unfit-rows : (p q : Verdict) (n row field : ℕ) → unfit row field ≡ survey_of p q n → (p ≡ fine) × (q ≡ wrong row field)
unfolding survey_of
unfit-rows (wrong k f) q n row field e = absurd (let z : ◌≡◌ {A = ℕ} 0 1 = cc in omega arith)
unfit-rows fine (wrong k f) n row field e =
    let x : k ≡ row = cc in
    let y : f ≡ field = cc in
    (refl, rw (x, y))
unfit-rows fine fine n row field e = absurd (let z : ◌≡◌ {A = ℕ} 0 1 = cc in omega arith)

pub fit-rows : (p q : Verdict) (n c : ℕ) → fits c ≡ survey_of p q n → (p ≡ fine) × (q ≡ fine) × (c ≡ n)
unfolding survey_of
fit-rows (wrong k f) q n c e = absurd (let z : ◌≡◌ {A = ℕ} 0 1 = cc in omega arith)
fit-rows fine (wrong k f) n c e = absurd (let z : ◌≡◌ {A = ℕ} 0 1 = cc in omega arith)
fit-rows fine fine n c e = let x : c ≡ n = cc in (refl, refl, x)

-- ---- the header

fine-named : (t : Bool) (h : Header) → fine ≡ pick t (header_proper h) fine → t ≡ true → length h.name ≡ 20
unfolding pick
fine-named true h e _ = (headed h (sym e)).long
fine-named false h e t = absurd (let z : ◌≡◌ {A = ℕ} 0 1 = cc in omega arith)

module _ (sh : Sheet) (h : Header) where
  pub named : fine ≡ pick sh.header (header_proper h) fine → Named sh h
  named e = fine-named sh.header h e

-- on C the first line's length is that of any header's
first_by : (sh : Sheet) (t : Bool) → sh.header ≡ t → (r : ℕ) → ((h : Header) → length h.name ≡ 20 → r ≡ length (spell_first sh h))
    → (h : Header) → Named sh h → r ≡ length (spell_first sh h)
first_by sh true e r f h n = f h (n e)
first_by sh false e r f h n = f no_header refl ∙ ap length (headless sh no_header h e)

pub first-length : (sh : Sheet) (r : ℕ) → ((h : Header) → length h.name ≡ 20 → r ≡ length (spell_first sh h)) → (h : Header) → Named sh h → r ≡ length (spell_first sh h)
first-length sh r f h n = first_by sh sh.header refl r f h n

-- ---- the draft, from what the rows are judged to be

module _ (sh : Sheet) (today : ℕ) (h : Header) (ts : List Thing) where
  -- 20 of a row comes before 21, of the header too
  pub rows-improper : (w : Found) → improper w.row w.field ≡ surveyed sh today h ts → Tells (Err (record { refusal = NotABatch; at = w })) (rows_draft sh today h ts)
  unfolding surveyed rows_draft on_verdict Tells
  rows-improper w e = rw (improper-rows (batch_proper ts) (batch_carried sh today h ts) _ w.row w.field e)

  -- what judging says of the header's 21, whatever comes behind it
  abbrev pub Carries : Result ℕ Refused → Result ℕ Refused → Type 0
  Carries next r = (d : Draft) → Tells next d → Tells r (on_verdict 21 (pick sh.header (header_carried sh.interval h) fine) d)

  -- behind 21 of the header comes that of a row
  pub rows-unfit : (w : Found) → unfit w.row w.field ≡ surveyed sh today h ts → (r : Result ℕ Refused)
      → Carries (Err (record { refusal = NotCarried; at = w })) r → Tells r (rows_draft sh today h ts)
  unfolding surveyed rows_draft on_verdict Tells
  rows-unfit w e r f =
      let (p, q) = unfit-rows (batch_proper ts) (batch_carried sh today h ts) _ w.row w.field e in
      rw p (f (on_verdict 21 (batch_carried sh today h ts) (drafted (canon sh h (batch_of ts)))) (rw q))

  -- or nothing, and the file has the first line's bytes, CR LF, and those of the rows
  pub rows_fit : (n c : ℕ) → n ≡ length (spell_first sh h) + 2 + c → fits c ≡ surveyed sh today h ts → (r : Result ℕ Refused) → Carries (Ok n) r → Tells r (rows_draft sh today h ts)
  unfolding surveyed rows_draft on_verdict Tells
  rows_fit n c g e r f =
      let (p, q, k) = fit-rows (batch_proper ts) (batch_carried sh today h ts) _ c e in
      let long : n ≡ length (canon sh h (batch_of ts)) = omega (arith, canon-length sh h ts p, k) in
      rw p (f (on_verdict 21 (batch_carried sh today h ts) (drafted (canon sh h (batch_of ts)))) (canon sh h (batch_of ts), rw q, long))

-- ---- the draft by its length

-- a draft with a length: nothing is wrong
bytes-verdict : (n k : ℕ) (v : Verdict) (d : Draft) → Tells (Ok n) (on_verdict k v d) → (v ≡ fine) × Tells (Ok n) d
unfolding Tells on_verdict
bytes-verdict n k fine d e = (refl, e)
bytes-verdict n k (wrong row field) d (s, e, l) = absurd (let z : ◌≡◌ {A = ℕ} 0 1 = cc in omega arith)

-- a refusal: its number, row and field, and the output as it was
module _ (r : Refused) (d : Draft) (e : Tells (Err r) d) where
  pub refused-answer : (room : ℕ) → refused_at (number_of r.refusal) r.at.row r.at.field ≡ written_in room d
  unfolding Tells written_in
  refused-answer room = rw e

  pub refused-output : (o : List ℕ) → o ≡ output_after o d
  unfolding Tells output_after
  refused-output o = rw e

module _ (sh : Sheet) (today : ℕ) (h : Header) (ts : List Thing) where
  -- the file has n bytes
  module _ (n : ℕ) (e : Tells (Ok n) (draft_of sh today h ts)) where
    nothing-wrong : (draft_of sh today h ts ≡ drafted (canon sh h (batch_of ts))) × (batch_proper ts ≡ fine) × (n ≡ length (canon sh h (batch_of ts)))
    unfolding Tells draft_of on_verdict
    nothing-wrong =
        let (a, e1) = bytes-verdict n 20 (pick sh.header (header_proper h) fine) _ e in
        let (b, e2) = bytes-verdict n 20 (batch_proper ts) _ e1 in
        let (c, e3) = bytes-verdict n 21 (pick sh.header (header_carried sh.interval h) fine) _ e2 in
        let (d, (_, same, long)) = bytes-verdict n 21 (batch_carried sh today h ts) _ e3 in
        (rw (a, b, c, d), b, cc)

    -- the rows are as "The batch" says
    pub proper-rows : batch_proper ts ≡ fine
    proper-rows = nothing-wrong.1

    -- there are fewer lent: 16, and the output stays
    pub short-answer : (room : ℕ) → room < n → counted_as 16 n ≡ written_in room (draft_of sh today h ts)
    unfolding written_in pick
    short-answer room l = let (d, _, k) = nothing-wrong in rw (d, ← k, lt-ltb _ _ l)

    pub short-output : (o : List ℕ) → length o < n → o ≡ output_after o (draft_of sh today h ts)
    unfolding output_after pick
    short-output o l = let (d, _, k) = nothing-wrong in rw (d, ← k, lt-ltb _ _ l)

    -- there are enough: 0, and the file stands in front of the old bytes behind it
    pub full-room : (o : List ℕ) → n ≤ length o → length (canon sh h (batch_of ts)) ≤ length o
    full-room o l = omega (arith, nothing-wrong.2)

    pub full-answer : (room : ℕ) → n ≤ room → counted_as 0 n ≡ written_in room (draft_of sh today h ts)
    unfolding written_in pick
    full-answer room l = let (d, _, k) = nothing-wrong in rw (d, ← k, le-ltb _ _ l)

    pub full-output : (o : List ℕ) → n ≤ length o → before (canon sh h (batch_of ts)) o ≡ output_after o (draft_of sh today h ts)
    unfolding output_after pick
    full-output o l = let (d, _, k) = nothing-wrong in rw (d, ← k, le-ltb _ _ l)

-- ---- the file put

module _ (sh : Sheet) (h : Header) (ts : List Thing) (p : batch_proper ts ≡ fine) where
  length-canon : length (canon sh h (batch_of ts)) ≡ length (line_of (spell_first sh h)) + length (flat sh need_file ts)
  length-canon = ap length (canon-flat sh h ts p) ∙ length-append (line_of (spell_first sh h)) (flat sh need_file ts)

  -- the first line has room,
  pub first-room : (o : List ℕ) → length (canon sh h (batch_of ts)) ≤ length o → 0 + length (line_of (spell_first sh h)) ≤ length o
  first-room o l = omega (arith, length-canon)

  -- and behind it the rows' lines,
  pub rest-room : (o o1 : List ℕ) (at : ℕ) → length (canon sh h (batch_of ts)) ≤ length o → Wrote o 0 (line_of (spell_first sh h)) o1 at → at + length (flat sh need_file ts) ≤ length o1
  rest-room o o1 at l w =
      let long : length o1 ≡ length o = ap length w.left ∙ length-put o 0 (line_of (spell_first sh h)) w.room in
      omega (arith, length-canon, w.next, long)

  -- which make the file
  pub file-put : (o o1 o2 : List ℕ) (at r : ℕ) → Wrote o 0 (line_of (spell_first sh h)) o1 at → Wrote o1 at (flat sh need_file ts) o2 r → o2 ≡ before (canon sh h (batch_of ts)) o
  unfolding put
  file-put o o1 o2 at r v w = (v then w).left ∙ rw (canon-flat sh h ts p, zero-add)
