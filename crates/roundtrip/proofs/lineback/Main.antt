-- The canonical line of an entry that fits is read as that entry, and holds no line end. Assumes nothing.
use mathlib.Core.Path.{◌≡◌, refl, sym, ap, ◌∙◌}
use mathlib.Core.Bool.{Bool, true, false}
use mathlib.Core.List.{List}
use Prim.Native.Nat.{ℕ}
use lib.Dec.{eqb}
use Rattle.base.specs.Pick.{pick}
use Rattle.base.specs.Seek.{all, starts}
use Rattle.base.proofs.Cases.{by-test, pick-false}
use Rattle.sheet.specs.declared.Sheet.{Sheet}
use Rattle.sheet.proofs.Laws.{Sane}
use Rattle.paper.specs.Warnings.{past_day}
use Rattle.paper.specs.Days.{due_warnings}
use Rattle.paper.specs.Terms.{day_here, bank_due}
use Rattle.paper.specs.Batch.{Header}
use Rattle.paper.specs.Proper.{fine, header_proper}
use Rattle.paper.specs.Entries.{Entry, head, file, group, item, close_group, close_file, nowhere, total_at, said, plain, counted, Kind, head_line, file_line, group_line, item_line, group_end, file_end, kind_of, line_end}
use Rattle.paper.specs.FileLine.{number_fault, number_allowed}
use Rattle.paper.specs.ClosingLine.{plus_at, read_close, spell_close}
use Rattle.paper.specs.Spells.{Context, number_test, read_as, read_line, Reads}
use Rattle.paper.specs.Canonical.{spell}
use Rattle.scan.specs.line.Cutting.{is_plain}
use Rattle.paper.proofs.Passing.{notices-length}
use Rattle.roundtrip.specs.linesound.Fits.{Fits, warnings}
use Rattle.roundtrip.proofs.lineback.FirstLine.{kind_first, first_back, none-back}
use Rattle.roundtrip.proofs.lineback.FileLine.{kind-file, file-back}
use Rattle.roundtrip.proofs.lineback.GroupLine.{kind-group, group-back}
use Rattle.roundtrip.proofs.lineback.ItemLine.{kind-of, item_back}
use Rattle.roundtrip.proofs.lineback.Plain.{first_plain, file-plain, group-plain, item-plain}

-- where no header is read, every number is allowed, whatever header was written
pub number-any : (sh : Sheet) → Sane sh → sh.header ≡ false → (h : Header) (seen : List ℕ) (n : ℕ) → number_allowed sh.interval h seen n ≡ true
unfolding number_allowed number_fault
number-any sh q off h seen n = ap (λ (k : ℕ). eqb k 0) (pick-false _ _ (q.no_interval off))

-- ---- back, and plain

-- a header that is spelled has to be proper; where none is, any will do
pub head_plain : (sh : Sheet) (h : Header) → (sh.header ≡ true → header_proper h ≡ fine) → all is_plain (spell sh (head h)) ≡ true
unfolding spell
head_plain sh h p = first_plain sh h p

module _ (sh : Sheet) (today : ℕ) (c : Context) where
  as-kind : (s : List ℕ) (k : Kind) → kind_of s ≡ k → read_line sh today c s ≡ counted (read_as sh today c k s)
  unfolding read_line
  as-kind s k e = ap (λ (j : Kind). counted (read_as sh today c j s)) e

  close-back : (near : Bool) (e : Entry) (digit : ℕ) → read_close near e (spell_close digit) ≡ plain e
  unfolding read_close plus_at line_end starts pick
  close-back near e digit = refl

  module _ (sane : Sane sh) where
    pub line-back : (e : Entry) → Fits sh today c e → Reads sh today (spell sh e) c e (warnings sh today (day_here sh c.kind) e)
    unfolding spell read_as kind_of starts pick counted
    line-back (head h) f =
        by-test sh.header
        (λ on. (nowhere, as-kind _ head_line (kind_first sh h) ∙ ap counted (first_back sh on h (f.is_proper on) (f.is_carried on))))
        (λ off. (nowhere, as-kind _ head_line (kind_first sh h) ∙ ap counted (none-back sh off h ∙ ap (λ (x : Header). plain (head x)) (sym (f.is_none off)))))
    line-back (file k n) f = (nowhere, as-kind _ file_line (kind-file sh k n) ∙ ap counted (file-back sh sane (number_test sh c.numbers) k n f))
    line-back (group p t d) f =
        let (at, spot, e) = group-back sh sane today (day_here sh c.kind) p t d f in (
          total_at at,
          as-kind _ group_line (kind-group sh p t d) ∙ ap counted e
              ∙ ap (λ (n : ℕ). said (group p t d) n (total_at at)) (notices-length past_day spot (due_warnings (day_here sh c.kind) sh.warnpast today d)),
        )
    line-back (item x) f =
        let (p, e) = item_back sh sane (bank_due sh today c.kind c.date) c.single x f in
        (p, as-kind _ item_line (kind-of sh (bank_due sh today c.kind c.date) c.single x f) ∙ ap counted e)
    line-back close_group f = (nowhere, as-kind _ group_end refl ∙ ap counted (close-back sh.near close_group 51))
    line-back close_file f = (nowhere, as-kind _ file_end refl ∙ ap counted (close-back sh.near close_file 53))

    pub line_plain : (e : Entry) → Fits sh today c e → all is_plain (spell sh e) ≡ true
    unfolding spell all is_plain pick
    line_plain (head h) f = head_plain sh h f.is_proper
    line_plain (file k n) f = file-plain sh k n
    line_plain (group p t d) f = group-plain sh p t d
    line_plain (item x) f = item-plain sh sane (bank_due sh today c.kind c.date) c.single x f
    line_plain close_group f = refl
    line_plain close_file f = refl
