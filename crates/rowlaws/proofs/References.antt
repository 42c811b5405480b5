-- Rows that differ in references alone say the same, and rows that reading leaves have none. Assumes nothing.
use mathlib.Core.Path.{◌≡◌, refl, ◌∙◌}
use mathlib.Core.Bool.{Bool, true}
use mathlib.Core.List.{List, [], ◌∷◌, ◌++◌}
use Prim.Native.Nat.{ℕ, zero, suc, ◌≤◌, ◌<◌}
use native.Mathlib.Omega.{arith}
use lib.Dec.{lit<}
use lib.ListN.{length, length-append}
use borrow.Author.Tests.{lt-ltb, ne_eqb}
use Rattle.base.specs.Pick.{pick}
use Rattle.base.proofs.Cases.{by-eq}
use Rattle.sheet.specs.declared.Sheet.{Sheet}
use Rattle.paper.specs.Batch.{Item}
use Rattle.paper.specs.Lines.{Line}
use Rattle.paper.specs.Entries.{Entry, head, file, group, item, close_group, close_file, Places, Counted, got, said, no}
use Rattle.paper.specs.Spells.{Context, read_as, read_line}
use Rattle.paper.specs.Words.{word, blanks}
use Rattle.paper.specs.Rows.{text_at, item_in, reference_proper, thing_in, things_in, file_row, group_row, texts_words, item_row, text_spots, entry_row, line_row, single_behind, accepted, lines_rows}
use Rattle.exact.proofs.Told.{told-line, kind-item}
use Rattle.rowlaws.specs.References.{Alike, AllAlike, Unreferred}
use Rattle.rowlaws.proofs.Kept.{kept-item}
use Rattle.rowlaws.proofs.Lengths.{texts-long, item-four}

-- ---- rows that differ in them alone

module _ (t r s : List ℕ) (a : Alike r s) where
  -- the words before the reference are the same
  w : (i : ℕ) → i < 21 → word r i ≡ word s i
  w i h = a.same i (λ e. omega arith)

  text-alike : (i : ℕ) → suc i < 21 → text_at t r i ≡ text_at t s i
  unfolding text_at
  text-alike i h = rw (w i (omega arith), w (suc i) h)

  item-alike : item_in t r ≡ item_in t s
  item-alike =
      rw (
        w 1 (lit< tt),
        w 2 (lit< tt),
        w 3 (lit< tt),
        w 4 (lit< tt),
        w 5 (lit< tt),
        w 6 (lit< tt),
        w 7 (lit< tt),
        w 8 (lit< tt),
        w 9 (lit< tt),
        w 10 (lit< tt),
        text-alike 11 (lit< tt),
        text-alike 13 (lit< tt),
        text-alike 15 (lit< tt),
        text-alike 17 (lit< tt),
        text-alike 19 (lit< tt),
      )

  -- an item's reference is in range in both
  in-range : word r 0 ≡ 3 → (reference_proper (word r 21) ≡ true) × (reference_proper (word s 21) ≡ true)
  unfolding reference_proper
  in-range e = let (x, y) = a.ranged e in (lt-ltb (word r 21) 4294967296 (omega arith), lt-ltb (word s 21) 4294967296 (omega arith))

  thing-alike : thing_in t r ≡ thing_in t s
  unfolding thing_in pick
  thing-alike =
      by-eq (word r 0) 3
      (λ e. let (x, y) = in-range e in rw (item-alike, x, y, w 0 (lit< tt), w 1 (lit< tt), w 2 (lit< tt), w 3 (lit< tt)))
      (λ e. rw (ne_eqb (word r 0) 3 e, w 0 (lit< tt), w 1 (lit< tt), w 2 (lit< tt), w 3 (lit< tt), ne_eqb (word s 0) 3 (λ z. e (w 0 (lit< tt) ∙ z))))

pub things-alike : (t : List ℕ) (rs ss : List (List ℕ)) → AllAlike rs ss → things_in t rs ≡ things_in t ss
unfolding things_in
things-alike t [] [] a = refl
things-alike t [] (s ∷ ss) a = absurd a
things-alike t (r ∷ rs) [] a = absurd a
things-alike t (r ∷ rs) (s ∷ ss) (a, b) = rw (thing-alike t r s a, things-alike t rs ss b)

-- ---- rows that reading leaves

-- what stands behind a row's own words is 0
behind-blank : (front : List ℕ) (n i : ℕ) → length front ≤ i → word (front ++ blanks n) i ≡ 0
unfolding blanks
behind-blank [] zero i h = refl
behind-blank [] (suc n) zero h = refl
behind-blank [] (suc n) (suc i) h = behind-blank [] n i (omega arith)
behind-blank (x ∷ front) n zero h = absurd (omega arith)
behind-blank (x ∷ front) n (suc i) h = behind-blank front n i (omega arith)

item-blank : (start : ℕ) (spots : List ℕ) (x : Item) → length x.parts ≡ 4 → word (item_row start spots x) 21 ≡ 0
unfolding item_row
item-blank start spots x four =
    let all = x.parts ++ (x.name ∷ []) in
    behind-blank (texts_words start spots all) 3 10 (omega (arith, texts-long start spots all, length-append x.parts (x.name ∷ [])))

joined : (rs ss : List (List ℕ)) → Unreferred rs → Unreferred ss → Unreferred (rs ++ ss)
joined [] ss a b = b
joined (r ∷ rs) ss (a, c) b = (a, joined rs ss c b)

module _ (sh : Sheet) (today : ℕ) (c : Context) (start : ℕ) (s : List ℕ) where
  entry-unreferred : (e : Entry) (v : ℕ) (q : Places) → read_line sh today c s ≡ said e v q → Unreferred (entry_row start q e)
  unfolding read_line read_as entry_row file_row group_row
  entry-unreferred (head h) v q e = tt
  entry-unreferred (file k n) v q e = (λ z. absurd (omega arith), tt)
  entry-unreferred (group p t d) v q e = (λ z. absurd (omega arith), tt)
  entry-unreferred (item x) v q e =
      let i = kind-item (told-line sh today c s _ e) in
      (λ _. item-blank start (text_spots q) x (item-four s x q (kept-item sh s v q _ _ x (rw i at e))), tt)
  entry-unreferred close_group v q e = tt
  entry-unreferred close_file v q e = tt

  said-unreferred : (r : Counted) → read_line sh today c s ≡ r → Unreferred (line_row start r)
  unfolding line_row
  said-unreferred (got t) q = entry-unreferred t.entry t.warnings t.places q
  said-unreferred (no n off) q = tt

pub lines-unreferred : (sh : Sheet) (today : ℕ) (b : Bool) (ls : List Line) → Unreferred (lines_rows sh today b ls)
unfolding lines_rows
lines-unreferred sh today b [] = tt
lines-unreferred sh today b (t ∷ ls) =
    let r = read_line sh today (accepted b) t.bytes in
    joined (line_row t.start r) (lines_rows sh today (single_behind b r) ls)
    (said-unreferred sh today (accepted b) t.start t.bytes r refl) (lines-unreferred sh today (single_behind b r) ls)
