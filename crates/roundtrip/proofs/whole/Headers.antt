-- On a sheet without a header (C), none is looked at: what writing does is the same with any. Assumes nothing.
use mathlib.Core.Path.{◌≡◌, refl, sym, ap, ◌∙◌}
use mathlib.Core.Bool.{true, false}
use mathlib.Core.List.{List, [], ◌∷◌, ◌++◌}
use Prim.Native.Nat.{ℕ, suc}
use Rattle.base.proofs.Cases.{by-test, pick_true, pick-false}
use Rattle.sheet.specs.declared.Sheet.{Sheet}
use Rattle.sheet.proofs.Laws.{Sane}
use Rattle.paper.specs.Batch.{Item, Group, AccountFile, Batch, Header, no_header, Thing, a_file, a_group, an_item, misnumbered, strange}
use Rattle.paper.specs.FileLine.{series}
use Rattle.paper.specs.Entries.{item, close_group, close_file}
use Rattle.paper.specs.FirstLine.{spell_first}
use Rattle.paper.specs.Carried.{Place, at_start, behind_file, behind_group, behind_item, rows_carried, batch_carried}
use Rattle.paper.specs.Spells.{Context, Due, item_dues, group_dues, file_dues, dues}
use Rattle.paper.specs.Canonical.{spell, text_of, canon}
use Rattle.roundtrip.proofs.linesound.FirstLine.{headless}
use Rattle.roundtrip.proofs.lineback.Main.{number-any}
use Rattle.roundtrip.specs.whole.Carries.{Passes, head_read}

module _ (sh : Sheet) where
  -- ---- the canonical file

  abbrev line : List ℕ → List ℕ → List ℕ
  line s t = s ++ (13 ∷ 10 ∷ t)

  module _ (h h' : Header) where
    text-items : (c : Context) (xs : List Item) (r r' : List Due) → text_of sh r ≡ text_of sh r' → text_of sh (item_dues c xs r) ≡ text_of sh (item_dues c xs r')
    unfolding item_dues text_of
    text-items c [] r r' e = ap (line (spell sh close_group)) e
    text-items c (x ∷ xs) r r' e = ap (line (spell sh (item x))) (text-items c xs r r' e)

    text-groups : (kind : ℕ) (gs : List Group) (r r' : List Due) → text_of sh r ≡ text_of sh r' → text_of sh (group_dues kind gs r) ≡ text_of sh (group_dues kind gs r')
    unfolding group_dues text_of
    text-groups kind [] r r' e = ap (line (spell sh close_file)) e
    text-groups kind (g ∷ gs) r r' e = ap (line (spell sh _)) (text-items _ g.items (group_dues kind gs r) (group_dues kind gs r') (text-groups kind gs r r' e))

    text-files : (seen : List ℕ) (fs : List AccountFile) → text_of sh (file_dues h seen fs) ≡ text_of sh (file_dues h' seen fs)
    unfolding file_dues text_of
    text-files seen [] = refl
    text-files seen (f ∷ fs) = ap (line (spell sh _)) (text-groups f.kind f.groups _ _ (text-files (series f.number ∷ seen) fs))

    pub canon-same : sh.header ≡ false → (b : Batch) → canon sh h b ≡ canon sh h' b
    unfolding canon dues text_of spell
    canon-same off b = rw (headless sh h h' off) (ap (line (spell_first sh h')) (text-files [] b))

  -- ---- the tests

  module _ (q : Sane sh) (off : sh.header ≡ false) (today : ℕ) (h h' : Header) where
    rows_same : (k : ℕ) (p : Place) (ts : List Thing) → rows_carried sh today h k p ts ≡ rows_carried sh today h' k p ts
    unfolding rows_carried
    rows_same k p [] = refl
    rows_same k p (a_file kind number ∷ ts) =
        rw (number-any sh q off h p.seen number, number-any sh q off h' p.seen number, rows_same (suc k) (behind_file p kind number) ts) refl
    rows_same k p (a_group date payer ∷ ts) = rw (rows_same (suc k) (behind_group p date) ts) refl
    rows_same k p (an_item x ∷ ts) = rw (rows_same (suc k) (behind_item p) ts) refl
    rows_same k p (misnumbered x ∷ ts) = refl
    rows_same k p (strange ∷ ts) = refl

    passes_same : (ts : List Thing) → Passes sh today h ts → Passes sh today h' ts
    unfolding batch_carried
    passes_same ts p =
        record {
          header-proper = pick-false _ _ off;
          rows-proper = p.rows-proper;
          header-carried = pick-false _ _ off;
          rows-carried = sym (rows_same 1 at_start ts) ∙ p.rows-carried;
          four_parts = p.four_parts;
        }

  -- ---- the header that is read back

  pub head-on : sh.header ≡ true → (h : Header) → head_read sh h ≡ h
  unfolding head_read
  head-on on h = pick_true _ _ on

  pub head-off : sh.header ≡ false → (h : Header) → head_read sh h ≡ no_header
  unfolding head_read
  head-off off h = pick-false _ _ off

  pub canon-read : (h : Header) (b : Batch) → canon sh (head_read sh h) b ≡ canon sh h b
  canon-read h b =
      by-test sh.header (λ on. ap (λ (x : Header). canon sh x b) (head-on on h)) (λ off. canon-same (head_read sh h) h off b)

  module _ (q : Sane sh) (today : ℕ) (h : Header) (ts : List Thing) where
    pub passes-read : Passes sh today h ts → Passes sh today (head_read sh h) ts
    passes-read p = by-test sh.header (λ on. rw (head-on on h) p) (λ off. passes_same q off today h (head_read sh h) ts p)

    pub passes-written : Passes sh today (head_read sh h) ts → Passes sh today h ts
    passes-written p = by-test sh.header (λ on. rw (head-on on h) at p) (λ off. passes_same q off today (head_read sh h) h ts p)
