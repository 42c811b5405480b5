-- How long rows are, of any line whether or not it is accepted, and how rows of lines are put together. Assumes nothing.
use mathlib.Core.Path.{◌≡◌, refl, ap, ◌∙◌}
use mathlib.Core.Bool.{Bool}
use mathlib.Core.List.{List, [], ◌∷◌, ◌++◌}
use Prim.Native.Nat.{ℕ, ◌*◌}
use native.Mathlib.Omega.{arith}
use lib.ListN.{length, length-append, length-map}
use Rattle.sheet.specs.declared.Sheet.{Sheet}
use Rattle.paper.specs.Batch.{Item}
use Rattle.paper.specs.Texts.{Piece}
use Rattle.paper.specs.Lines.{Line}
use Rattle.paper.specs.Entries.{head, file, group, item, close_group, close_file, Entry, Places, Counted, got, said, no}
use Rattle.paper.specs.Spells.{Context, read_as, read_line}
use Rattle.paper.specs.Words.{blanks}
use Rattle.paper.specs.Rows.{file_row, group_row, texts_words, item_row, text_spots, entry_row, line_row, single_behind, accepted, lines_rows}
use Rattle.out.specs.word.Sizes.{Long}
use Rattle.out.proofs.word.Rows.{long-append}
use Rattle.exact.proofs.Told.{told-line, kind-item}
use Rattle.rowlaws.proofs.Kept.{KeptItem, kept-item}
use Rattle.rowlaws.proofs.Row.{words-of}

-- ---- one row

pub texts-long : (start : ℕ) (spots : List ℕ) (ts : List (List ℕ)) → length (texts_words start spots ts) ≡ 2 * length ts
unfolding texts_words
texts-long start spots [] = refl
texts-long start [] (t ∷ ts) = rw (words-of start 0 t) (omega (arith, texts-long start [] ts))
texts-long start (off ∷ spots) (t ∷ ts) = rw (words-of start off t) (omega (arith, texts-long start spots ts))

pub item-long : (start : ℕ) (spots : List ℕ) (x : Item) → length x.parts ≡ 4 → length (item_row start spots x) ≡ 24
unfolding item_row blanks
item-long start spots x four =
    let all = x.parts ++ (x.name ∷ []) in
    omega (arith, length-append (texts_words start spots all) (0 ∷ 0 ∷ 0 ∷ []), texts-long start spots all, length-append x.parts (x.name ∷ []))

-- an item that was read has four parts
pub item-four : (w : List ℕ) (x : Item) (q : Places) → KeptItem w x q → length x.parts ≡ 4
item-four w x q k = ap length k.parts_are ∙ length-map k.texts.parts (λ (p : Piece). p.bytes) ∙ k.placed.four

-- ---- a line's row, if it has one

module _ (sh : Sheet) (today : ℕ) (c : Context) (start : ℕ) (s : List ℕ) where
  entry-long : (e : Entry) (v : ℕ) (q : Places) → read_line sh today c s ≡ said e v q → Long 24 (entry_row start q e)
  unfolding read_line read_as entry_row file_row group_row blanks
  entry-long (head h) v q e = tt
  entry-long (file k n) v q e = (refl, tt)
  entry-long (group p t d) v q e = (refl, tt)
  entry-long (item x) v q e =
      let i = kind-item (told-line sh today c s _ e) in
      (item-long start (text_spots q) x (item-four s x q (kept-item sh s v q _ _ x (rw i at e))), tt)
  entry-long close_group v q e = tt
  entry-long close_file v q e = tt

  said-long : (r : Counted) → read_line sh today c s ≡ r → Long 24 (line_row start r)
  unfolding line_row
  said-long (got t) q = entry-long t.entry t.warnings t.places q
  said-long (no n off) q = tt

  pub line-long : Long 24 (line_row start (read_line sh today c s))
  line-long = said-long (read_line sh today c s) refl

-- ---- the rows of lines

pub lines_long : (sh : Sheet) (today : ℕ) (b : Bool) (ls : List Line) → Long 24 (lines_rows sh today b ls)
unfolding lines_rows
lines_long sh today b [] = tt
lines_long sh today b (t ∷ ls) =
    let r = read_line sh today (accepted b) t.bytes in
    long-append 24 (line_row t.start r) (lines_rows sh today (single_behind b r) ls)
    (line-long sh today (accepted b) t.start t.bytes) (lines_long sh today (single_behind b r) ls)
