-- The canonical first line of a header is read as that header. Assumes nothing.
use mathlib.Core.Path.{◌≡◌, refl, ap, ◌∙◌}
use mathlib.Core.Bool.{Bool, true, false}
use mathlib.Core.List.{List, ◌++◌}
use Prim.Native.Nat.{ℕ, ◌^◌, ◌<◌}
use lib.Dec.{ltb, leb}
use borrow.Author.Tests.{leb-true, le-ltb}
use Rattle.base.specs.Pick.{pick}
use Rattle.base.specs.Seek.{all, starts}
use Rattle.base.proofs.Cases.{either, pick_true, pick-false}
use Rattle.sheet.specs.declared.Sheet.{Sheet}
use Rattle.paper.specs.Read.{value, given}
use Rattle.paper.specs.Bytes.{bytes, is_text}
use Rattle.paper.specs.Numerals.{digits, fixed_on, fixed}
use Rattle.paper.specs.Days.{real_day, short_day, read_day, spell_day}
use Rattle.paper.specs.Batch.{Header, no_header}
use Rattle.paper.specs.Proper.{fine, header_proper}
use Rattle.paper.specs.Carried.{header_carried}
use Rattle.paper.specs.Entries.{head, plain, head_line, kind_of}
use Rattle.paper.specs.FirstLine.{text_field, read_to, rest_length, read_rest, read_first, spell_first}
use Rattle.paper.proofs.Verdicts.{check-only, Headed, headed}
use Rattle.numeral.proofs.Fixed.{fixed-length}
use Rattle.numeral.proofs.Back.{fixed_back}
use Rattle.calendar.proofs.Back.{day-back, spell-day-length}
use Rattle.paper.proofs.Fields.{on-back}
use Rattle.roundtrip.proofs.lineback.Fields.{place-back}

ordered-in : (ordered : Bool) (h : Header) → header_carried ordered h ≡ fine → pick ordered (ltb h.to h.from) false ≡ false
unfolding header_carried pick
ordered-in true h e =
    le-ltb h.to h.from (leb-true h.from h.to (check-only 0 5 (leb h.from h.to) fine e).0)
ordered-in false h e = refl

-- ---- its fields

short_back : (d : ℕ) → real_day d ≡ true → short_day (spell_day d) ≡ value d
unfolding read_day pick
short_back d r = day-back d r false

text-back : (t : List ℕ) → all is_text t ≡ true → text_field t ≡ value t
unfolding text_field
text-back t h = pick_true _ _ h

to_back : (ordered : Bool) (from to : ℕ) → to < 10 ^ 3 → pick ordered (ltb to from) false ≡ false → read_to ordered from (fixed 3 to) ≡ value to
unfolding read_to given
to_back ordered from to h e = rw (fixed_back 3 to h) (pick-false _ _ e)

rest_back : (short : Bool) → read_rest short (fixed 12 0) ≡ value (fixed 12 0)
unfolding read_rest rest_length text_field fixed fixed_on all is_text pick
rest_back short = refl

-- ---- the line

abbrev line58 : Header → List ℕ
line58 h = bytes "UHL1" ++ (spell_day h.date ++ (h.name ++ (fixed 10 h.client ++ (fixed 3 h.from ++ (fixed 3 h.to ++ fixed 12 0)))))

pub kind_first : (sh : Sheet) (h : Header) → kind_of (spell_first sh h) ≡ head_line
unfolding kind_of starts spell_first pick
kind_first sh h = either (λ s. kind_of s ≡ head_line) sh.header (λ _. refl) (λ _. refl)

pub first-is : (sh : Sheet) → sh.header ≡ true → (h : Header) → spell_first sh h ≡ line58 h
unfolding spell_first
first-is sh on h = pick_true (line58 h) (bytes "UHL1") on

fields_back : (sh : Sheet) → sh.header ≡ true → (h : Header) → Headed h → header_carried sh.interval h ≡ fine → read_first sh (line58 h) ≡ plain (head h)
unfolding read_first
fields_back sh on h t c =
    pick_true _ _ on
    ∙ place-back short_day 4 (spell_day h.date) h.date _ 6 _ (spell-day-length h.date) (short_back h.date t.date)
    ∙ place-back text_field _ h.name h.name _ 20 _ t.long (text-back h.name t.name)
    ∙ place-back (digits 10 10) _ (fixed 10 h.client) h.client _ 10 _ (fixed-length 10 _) (fixed_back 10 h.client t.client)
    ∙ place-back (digits 3 3) _ (fixed 3 h.from) h.from _ 3 _ (fixed-length 3 _) (fixed_back 3 h.from t.from)
    ∙ place-back (read_to sh.interval h.from) _ (fixed 3 h.to) h.to _ 3 _ (fixed-length 3 _)
    (to_back sh.interval h.from h.to t.to (ordered-in sh.interval h c))
    ∙ on-back _ (read_rest sh.short (fixed 12 0)) (fixed 12 0) _ (rest_back sh.short)

pub first_back : (sh : Sheet) → sh.header ≡ true → (h : Header) → header_proper h ≡ fine → header_carried sh.interval h ≡ fine
    → read_first sh (spell_first sh h) ≡ plain (head h)
first_back sh on h p c = ap (read_first sh) (first-is sh on h) ∙ fields_back sh on h (headed h p) c

-- where the first line has no fields, every header reads back as none
pub none-back : (sh : Sheet) → sh.header ≡ false → (h : Header) → read_first sh (spell_first sh h) ≡ plain (head no_header)
unfolding read_first
none-back sh off h = pick-false _ _ off
