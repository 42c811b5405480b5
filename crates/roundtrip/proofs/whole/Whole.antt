-- What spells a batch and what carries it: both ways between the lines of a file and the tests of writing. Assumes nothing.
use mathlib.Core.Path.{◌≡◌, refl, sym, ◌∙◌}
use mathlib.Core.Bool.{false}
use mathlib.Core.List.{List, [], ◌∷◌}
use Prim.Native.Nat.{ℕ, ◌≤◌}
use native.Mathlib.Omega.{arith}
use lib.ListN.{length}
use Rattle.base.proofs.Cases.{by-test, either, pick_true}
use Rattle.base.proofs.Seek.{never}
use Rattle.sheet.specs.declared.Sheet.{Sheet}
use Rattle.sheet.proofs.Laws.{Sane}
use Rattle.paper.specs.Batch.{Batch, Header, no_header, things}
use Rattle.paper.specs.Lines.{lines_of}
use Rattle.paper.specs.Proper.{Verdict, fine, file_due, may_stop, at_top, batch_proper}
use Rattle.paper.specs.Carried.{at_start, batch_carried}
use Rattle.paper.specs.Spells.{file_dues, dues, Spells}
use Rattle.paper.specs.Canonical.{canon}
use Rattle.roundtrip.specs.linesound.Fits.{HeadFits, Fits}
use Rattle.roundtrip.specs.whole.Carries.{Carries, head_read, past_warnings}
use Rattle.roundtrip.proofs.whole.Lines.{Every, Told, each-told, lines-back}
use Rattle.roundtrip.proofs.whole.Good.{Good, end-only}
use Rattle.roundtrip.proofs.whole.Only.{files-only}
use Rattle.roundtrip.proofs.whole.Also.{some-files}
use Rattle.roundtrip.proofs.whole.Headers.{head-on, head-off}
use Rattle.roundtrip.proofs.whole.Warnings.{warned-batch}

module _ (sh : Sheet) (today : ℕ) (h : Header) (b : Batch) where
  module _ (f : List ℕ) (w : ℕ) (sane : Sane sh) (s : Spells sh today f h b w) where
    -- what is due behind the first line was told, and the header fits
    told : HeadFits sh h × Every (Told sh today) (file_dues h [] b)
    unfolding dues
    told = (each-told sh today sane (lines_of 0 f) (dues h b) w s.lines).0

    -- a batch that a file spells passes the tests of writing
    pub spelled-carries : Carries sh today h b
    unfolding batch_proper batch_carried file_due
    spelled-carries =
        let (top, tell) = told in
        let (some, few, less, r) = s.rules in
        let g = some-files sh today h 0 0 [] b 1 at_top 0 refl some (omega arith) (omega arith) r tell in
        record {
          header-proper = either (λ (v : Verdict). v ≡ fine) sh.header top.is_proper (λ _. refl);
          rows-proper = g.is_proper;
          header-carried = either (λ (v : Verdict). v ≡ fine) sh.header top.is_carried (λ _. refl);
          rows-carried = g.is_carried;
          four_parts = g.has_parts;
        }

    -- a header that is read is one that can be read
    pub spelled-header : head_read sh h ≡ h
    spelled-header = by-test sh.header (λ on. head-on sh on h) (λ off. head-off sh off h ∙ sym (told.0.is_none off))

    -- no file that spells it gives fewer warnings than the canonical one
    pub spelled-warnings : past_warnings sh today b ≤ w
    spelled-warnings = omega (arith, warned-batch sh today h b, (each-told sh today sane (lines_of 0 f) (dues h b) w s.lines).1)

  files-some : (fs : Batch) → Good sh today h 1 at_top at_start (things fs) → 1 ≤ length fs
  unfolding things may_stop
  files-some [] g = never (sym (end-only sh today h 1 at_top at_start g))
  files-some (f ∷ fs) g = omega arith

  module _ (sane : Sane sh) (p : Carries sh today h b) (none : sh.header ≡ false → h ≡ no_header) where
    top-fits : HeadFits sh h
    top-fits =
        record {
          is_proper = λ on. sym (pick_true _ _ on) ∙ p.header-proper;
          is_carried = λ on. sym (pick_true _ _ on) ∙ p.header-carried;
          is_none = none;
        }

    rows-good : Good sh today h 1 at_top at_start (things b)
    unfolding batch_proper batch_carried
    rows-good = record { is_proper = p.rows-proper; is_carried = p.rows-carried; has_parts = p.four_parts }

    all_fit : Every (Fits sh today) (dues h b)
    unfolding dues
    all_fit = (top-fits, (files-only sh today h 0 0 [] b 1 at_top 0 rows-good).3)

    -- the canonical file of a batch that passes the tests of writing spells it
    pub carries-spells : Spells sh today (canon sh h b) h b (past_warnings sh today b)
    unfolding canon
    carries-spells =
        let (r, few, less, fit) = files-only sh today h 0 0 [] b 1 at_top 0 rows-good in
        record {
          lines = rw (← warned-batch sh today h b) (lines-back sh today sane 0 (dues h b) all_fit);
          rules = (files-some b rows-good, omega arith, omega arith, r);
        }
