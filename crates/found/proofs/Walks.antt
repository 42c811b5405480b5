-- The walk of a line where a pass stands: what is known of it is what it asks, and its offset lies in the line. Assumes nothing.
use Rattle.std.proofs.Common.{◌≡◌, ℕ, ◌+◌, ◌-◌, ◌%◌, ◌^◌, ◌≤◌, true, List, length, take, drop, sym, refl, ap, ◌∙◌, arith, length-drop, length-take, w64, Fits, Ok, Err}
use Rattle.base.specs.Pick.{pick}
use Rattle.base.proofs.Seek.{never}
use Rattle.sheet.specs.declared.Sheet.{Sheet}
use Rattle.sheet.proofs.Laws.{Sane}
use Rattle.paper.specs.Batch.{Header}
use Rattle.paper.specs.Entries.{Said, no, counted, Kind, head_line, file_line, group_line, item_line, group_end, file_end, kind_of}
use Rattle.paper.specs.Spells.{Context, read_line}
use Rattle.exact.proofs.named.Main.{line-inside}
use Rattle.fileline.specs.declared.seen.Seen.{Seen}
use Rattle.fileline.specs.seen.Bits.{Holds}
use Rattle.tally.specs.Tally.{context_of, is_due}
use Rattle.why.specs.declared.Finding.{Finding}
use Rattle.why.specs.Walk.{Walked, passed, stopped, why_as}
use Rattle.why.specs.Told.{Told, fine, by-rule, by-form}
use Rattle.why.specs.Finding.{on_walked}
use Rattle.why.proofs.Lines.{tells}
use Rattle.fault.specs.declared.line.Fault.{Fault}
use Rattle.fault.specs.declared.known.Bearing.{Bearing}
use Rattle.fault.specs.line.Walks.{Walk, walk}
use Rattle.fault.specs.known.Bears.{Bears}
use Rattle.course.specs.declared.Course.{Course}
use Rattle.course.specs.declared.Stage.{Stage}
use Rattle.course.specs.declared.Stage.TheVariants as stage
use Rattle.course.specs.Stands.{numbers_of}
use Rattle.found.specs.Numbers.{at_total}
use Rattle.found.specs.Bearings.{bearing_at, Faults}

pub digits_few : (sh : Sheet) → Sane sh → sh.itemdigits ≤ 19
digits_few sh sane = omega (arith, sane.digits_few)

-- ---- a walk's offset lies in its line

abbrev offset_of : Walked → ℕ
offset_of passed = 0
offset_of (stopped x) = x.offset

told_in : {sh : Sheet} {today : ℕ} {c : Context} {w : List ℕ} {from : ℕ} {A : Type 0} (m : ℕ) {r : Said A} {y : Walked} → Told sh today c w from r y
    → ((n off : ℕ) → r ≡ no n off → off ≤ m) → offset_of y ≤ m
told_in m fine h = omega arith
told_in m (by-rule {n = n} {at = at} e clear b) h = h n at refl
told_in m (by-form {at = at} clear b) h = h 4 at refl

offset-in : (sh : Sheet) → Sane sh → (today : ℕ) (c : Context) (w : List ℕ) → offset_of (why_as sh today c w (kind_of w)) ≤ length w
unfolding read_line counted
offset-in sh sane today c w = told_in (length w) (tells sh sane today c w (kind_of w)) λ n off e. line-inside sh today c w n off (ap counted e)

-- ---- what is known where a line of the kind is due

module _ (from to : ℕ) (seen : Seen) (h : Header) (l : List ℕ) (first : h.from ≡ from) (last : h.to ≡ to) (holds : Holds seen.words l) where
  knows : (kind : Kind) (s : Stage) → is_due (numbers_of h l s) kind ≡ true → Bears (bearing_at s from to seen) (context_of (numbers_of h l s)) kind
  unfolding is_due context_of pick
  knows head_line s due = tt
  knows file_line stage.First due = never (sym due)
  knows file_line (stage.File c) due = record { header = h; before = l; numbers = refl; holds = holds; first = first; last = last }
  knows file_line (stage.Group c x) due = never (sym due)
  knows file_line (stage.Item x) due = never (sym due)
  knows group_line stage.First due = refl
  knows group_line (stage.File c) due = refl
  knows group_line (stage.Group c x) due = refl
  knows group_line (stage.Item x) due = refl
  knows item_line stage.First due = record { kind = refl; date = refl; single = refl }
  knows item_line (stage.File c) due = record { kind = refl; date = refl; single = refl }
  knows item_line (stage.Group c x) due = record { kind = refl; date = refl; single = refl }
  knows item_line (stage.Item x) due = record { kind = refl; date = refl; single = refl }
  knows group_end s due = tt
  knows file_end s due = tt

-- ---- from the walk to the finding

on-passed : (k at : ℕ) (z : Finding) (y : Walked) → Ok tt ≡ walk y → on_walked y k at z ≡ z
unfolding on_walked walk
on-passed k at z passed e = refl
on-passed k at z (stopped x) e = absurd (let n : ◌≡◌ {A = ℕ} 0 1 = cc in omega arith)

-- what is found of a fault of line k, at that byte
abbrev found : ℕ → ℕ → Fault → Finding
found k byte d =
    record { number = d.number; cause = d.cause; line = k; byte = byte; length = d.length; field = d.field; least = d.least; most = d.most }

on-stopped : (byte k at : ℕ) (z : Finding) (d : Fault) (y : Walked) → Err d ≡ walk y → (offset_of y ≡ d.offset → byte ≡ at + d.offset)
    → found k byte d ≡ on_walked y k at z
unfolding on_walked walk
on-stopped byte k at z d passed e b = absurd (let n : ◌≡◌ {A = ℕ} 0 1 = cc in omega arith)
on-stopped byte k at z d (stopped x) e b =
    let o : d.offset ≡ x.offset = cc in
    let g : byte ≡ at + d.offset = b (sym o) in
    cc

module _
    (sh : Sheet) (sane : Sane sh) (today : ℕ) (f : List ℕ) (at stop k : ℕ) (p : at ≤ stop) (q : stop ≤ length f) (x : Course) (seen : Seen) (b : Bearing)
    (g : b ≡ bearing_at x.stage x.from x.to seen) (w : Walk)
    (t : (c : Context) → Bears b c (kind_of (take (stop - at) (drop at f))) → w ≡ walk (why_as sh today c (take (stop - at) (drop at f)) (kind_of (take (stop - at) (drop at f)))))
  where
    -- the walk, in the context of the machine's numbers
    walked : (h : Header) (l : List ℕ) → h.from ≡ x.from → h.to ≡ x.to → Holds seen.words l
        → is_due (numbers_of h l x.stage) (kind_of (take (stop - at) (drop at f))) ≡ true
        → w ≡ walk (why_as sh today (context_of (numbers_of h l x.stage)) (take (stop - at) (drop at f)) (kind_of (take (stop - at) (drop at f))))
    walked h l a z holds due =
        t _ (rw g (knows x.from x.to seen h l a z holds (kind_of (take (stop - at) (drop at f))) x.stage due))

    pub by-passed : w ≡ Ok tt → (r : Finding) → ((h : Header) (l : List ℕ) → r ≡ at_total f (numbers_of h l x.stage)) → Faults sh today f at stop k x seen.words r
    by-passed e r i h l a z holds due = i h l ∙ sym (on-passed k at _ _ (sym e ∙ walked h l a z holds due))

    pub by-fault : (d : Fault) → w ≡ Err d → (byte : ℕ) → byte ≡ (at + d.offset) % 2 ^ 64 → Fits w64 stop
        → Faults sh today f at stop k x seen.words (found k byte d)
    by-fault d e byte i fits h l a z holds due =
        let s = take (stop - at) (drop at f) in
        let c = context_of (numbers_of h l x.stage) in
        on-stopped byte k at _ d _ (sym e ∙ walked h l a z holds due)
        λ o. omega (arith, fits.fits, offset-in sh sane today c s, length-take (stop - at) (drop at f), length-drop at f)

pub ruleset walks = (digits_few, by-passed, by-fault)
