-- What the first line says fits: a header in its ranges, or C's, whose line is always the same. Assumes nothing.
use mathlib.Core.Path.{◌≡◌, refl, sym, ◌∙◌}
use mathlib.Core.Bool.{Bool, true, false}
use mathlib.Core.List.{List}
use Prim.Native.Nat.{ℕ, ◌^◌, ◌<◌}
use lib.Dec.{eqb, ltb, leb}
use lib.ListN.{length}
use borrow.Author.Tests.{lt-ltb, le-leb, ltb-false, eq-eqb}
use Rattle.base.specs.Pick.{pick}
use Rattle.base.specs.Seek.{all}
use Rattle.base.proofs.Cases.{both-pick}
use Rattle.base.proofs.Seek.{never}
use Rattle.sheet.specs.declared.Sheet.{Sheet}
use Rattle.paper.specs.Read.{value}
use Rattle.paper.specs.Bytes.{is_text}
use Rattle.paper.specs.Numerals.{digits}
use Rattle.paper.specs.Days.{real_day, short_day, read_day}
use Rattle.paper.specs.Batch.{Header, no_header}
use Rattle.paper.specs.Proper.{fine, header_proper}
use Rattle.paper.specs.Carried.{header_carried}
use Rattle.paper.specs.FirstLine.{text_field, read_to, spell_first}
use Rattle.paper.proofs.LineSays.{Read}
use Rattle.paper.proofs.Verdicts.{check-on}
use Rattle.numeral.proofs.Sound.{digits-sound}
use Rattle.numeral.proofs.given.Given.{given-value, passed, kept}
use Rattle.calendar.proofs.Sound.{day-sound}
use Rattle.roundtrip.specs.linesound.Fits.{HeadFits}

-- ---- its fields

short-sound : (f : List ℕ) (d : ℕ) → short_day f ≡ value d → real_day d ≡ true
unfolding read_day pick
short-sound f d e = day-sound false f d e

text_same : (f t : List ℕ) → text_field f ≡ value t → (all is_text f ≡ true) × (f ≡ t)
unfolding text_field
text_same f t e = passed (all is_text f) f t 4 e

text-sound : (f t : List ℕ) (n : ℕ) → length f ≡ n → text_field f ≡ value t → pick (eqb (length t) n) (all is_text t) false ≡ true
text-sound f t n l e =
    let p = text_same f t e in
    rw (← p.1) (both-pick _ _ (eq-eqb (length f) n l) p.0)

to-sound : (ordered : Bool) (from : ℕ) (f : List ℕ) (v : ℕ) → read_to ordered from f ≡ value v → (v < 1000) × (pick ordered (ltb v from) false ≡ false)
unfolding read_to
to-sound ordered from f v e =
    let g = given-value _ (digits 3 3 f) v e in
    let k = kept (pick ordered (ltb g.0 from) false) g.0 v 9 g.2 in
    let m : g.0 ≡ v = k.1 in
    (rw (← m) (digits-sound 3 3 f g.0 g.1), rw (← m) k.0)

-- ---- the header

header-proper : (h : Header) → real_day h.date ≡ true → pick (eqb (length h.name) 20) (all is_text h.name) false ≡ true → h.client < 10 ^ 10
    → h.from < 10 ^ 3 → h.to < 1000 → header_proper h ≡ fine
unfolding header_proper
header-proper h d n c f t =
    check-on 0 1 _ _ d ∙ check-on 0 2 _ _ n ∙ check-on 0 3 _ _ (lt-ltb h.client 10000000000 c) ∙ check-on 0 4 _ _ (lt-ltb h.from 1000 f)
    ∙ check-on 0 5 _ _ (lt-ltb h.to 1000 t)

in-order : (ordered : Bool) (from to : ℕ) → pick ordered (ltb to from) false ≡ false → pick ordered (leb from to) true ≡ true
unfolding pick
in-order true from to e = le-leb from to (ltb-false to from e)
in-order false from to e = refl

header-carried : (ordered : Bool) (h : Header) → pick ordered (ltb h.to h.from) false ≡ false → header_carried ordered h ≡ fine
unfolding header_carried
header-carried ordered h e = check-on 0 5 _ _ (in-order ordered h.from h.to e)

-- ---- the line

module _ (sh : Sheet) where
  pub header-fits : {date client from to : ℕ} {name : List ℕ} → sh.header ≡ true → Read short_day date → (t : Read text_field name) → length t.0 ≡ 20
      → Read (digits 10 10) client → Read (digits 3 3) from → Read (read_to sh.interval from) to
      → HeadFits sh (record { date = date; name = name; client = client; from = from; to = to })
  header-fits {date} {client} {from} {to} {name} has d n long c f t =
      let h : Header = record { date = date; name = name; client = client; from = from; to = to } in
      let l = to-sound sh.interval from t.0 to t.1 in
      record {
        is_proper =
            λ _. header-proper h (short-sound d.0 date d.1) (text-sound n.0 name 20 long n.1) (digits-sound 10 10 c.0 client c.1)
            (digits-sound 3 3 f.0 from f.1) l.0;
        is_carried = λ _. header-carried sh.interval h l.1;
        is_none = λ not. never (sym has ∙ not);
      }

  pub no-header-fits : sh.header ≡ false → HeadFits sh no_header
  no-header-fits not = record { is_proper = λ yes. never (sym yes ∙ not); is_carried = λ yes. never (sym yes ∙ not); is_none = λ _. refl }

  -- C's first line is the same with any header
  pub headless : (h g : Header) → sh.header ≡ false → spell_first sh h ≡ spell_first sh g
  unfolding spell_first pick
  headless h g e = rw e
