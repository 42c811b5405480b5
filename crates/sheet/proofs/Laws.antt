-- What holds of every sheet that a number or a letter names. Assumes nothing.
use Rattle.std.proofs.Common.{Option, Some, None}
use mathlib.Core.Path.{◌≡◌, refl, sym, ◌∙◌}
use mathlib.Core.Bool.{Bool, true, false, not, ◌&&◌, ◌||◌}
use mathlib.Core.List.{List, [], ◌∷◌}
use Prim.Native.Nat.{ℕ, ◌^◌, ◌≤◌, ◌<◌}
use native.Mathlib.Omega.{arith}
use lib.Dec.{leb, ltb, eqb}
use borrow.Author.Tests.{leb-true, ltb-true, eqb-true, eq-eqb, not-true}
use Rattle.base.specs.Pick.{pick}
use Rattle.base.proofs.Cases.{both, pick_true, pick-false}
use Rattle.sheet.specs.declared.Sheet.{Sheet}
use Rattle.sheet.specs.Sheets.{sheets, first_named, sheet_of, sheet_by}

-- ---- by its name

-- a test holds of every sheet of a list
abbrev pub every : (Sheet → Bool) → List Sheet → Bool
every t [] = true
every t (a ∷ shs) = t a && every t shs

-- no two sheets of a list have one name
abbrev apart : (Sheet → ℕ) → List Sheet → Bool
apart name [] = true
apart name (a ∷ shs) = every (λ x. not (eqb (name x) (name a))) shs && apart name shs

nothing : {P : Type 0} (s : Sheet) → None ≡ Some s → P
nothing s e = absurd (let z : ◌≡◌ {A = ℕ} 0 1 = cc in omega arith)

-- one test: it names a, or the others name the sheet
either-named : {P : Type 0} (t : Bool) (a s : Sheet) (rest : Option Sheet) → (t ≡ true → a ≡ s → P) → (rest ≡ Some s → P)
    → pick t (Some a) rest ≡ Some s → P
unfolding pick
either-named true a s rest p q e = p refl (cc)
either-named false a s rest p q e = q e

module _ (name : Sheet → ℕ) (n : ℕ) (s : Sheet) where
  -- what is tested of every sheet of a list holds of the one that is named
  tested : (t : Sheet → Bool) (shs : List Sheet) → every t shs ≡ true → first_named name n shs ≡ Some s → t s ≡ true
  tested t [] w e = nothing s e
  tested t (a ∷ shs) w e =
      let (here, there) = both (t a) (every t shs) w in
      either-named _ a s _ (λ _ same. rw same at here) (tested t shs there) e

  -- it has that name
  has-name : (shs : List Sheet) → first_named name n shs ≡ Some s → name s ≡ n
  has-name [] e = nothing s e
  has-name (a ∷ shs) e = either-named _ a s _ (λ t same. rw same at (sym (eqb-true n (name a) t))) (has-name shs) e

  -- and where no two of them have one name of another sort, that one names it too
  named-also : (other : Sheet → ℕ) (shs : List Sheet) → apart other shs ≡ true → first_named name n shs ≡ Some s
      → first_named other (other s) shs ≡ Some s
  named-also other [] w e = nothing s e
  named-also other (a ∷ shs) w e =
      let (fresh, rest) = both (every (λ x. not (eqb (other x) (other a))) shs) (apart other shs) w in
      either-named _ a s _
      (λ _ same. rw same (pick_true _ _ (eq-eqb (other s) (other s) refl)))
      (λ q. pick-false _ _ (not-true _ (tested (λ x. not (eqb (other x) (other a))) shs fresh q)) ∙ named-also other shs rest q)
      e

module _ (n : ℕ) (s : Sheet) (named : sheet_of n ≡ Some s) where
  -- what is tested of every known sheet holds of the one that a number names
  pub every-sheet : (t : Sheet → Bool) → every t sheets ≡ true → t s ≡ true
  unfolding sheet_of
  every-sheet t w = tested (λ x. x.number) n s t sheets w named

  -- its letter names it too
  pub letter-same : sheet_by s.letter ≡ Some s
  unfolding sheet_of sheet_by
  letter-same = named-also (λ x. x.number) n s (λ x. x.letter) sheets refl named

module _ (b : ℕ) (s : Sheet) (named : sheet_by b ≡ Some s) where
  -- .. and of the one that a letter names
  pub every-letter : (t : Sheet → Bool) → every t sheets ≡ true → t s ≡ true
  unfolding sheet_by
  every-letter t w = tested (λ x. x.letter) b s t sheets w named

  -- it has that letter,
  pub sheet-letter : s.letter ≡ b
  unfolding sheet_by
  sheet-letter = has-name (λ x. x.letter) b s sheets named

  -- and its number names it too
  pub number_same : sheet_of s.number ≡ Some s
  unfolding sheet_of sheet_by
  number_same = named-also (λ x. x.letter) b s (λ x. x.number) sheets refl named

-- ---- its parameters

-- the bounds that every sheet keeps to. A text as it stands has no name and is one part. A tail that always has its text, which may be empty, has it as it stands. Where no header is read, none
-- limits the numbers of account files.
pub record Sane (s : Sheet) : Type 0 where
  pub base_some : 1 ≤ s.basemin
  pub base_few : s.basemin ≤ 2
  pub parts_some : 0 < s.text.most
  pub parts_few : s.text.most ≤ 4
  pub names_av : s.text.av ≡ false → s.text.names ≡ false
  pub part_alone : s.text.av ≡ false → s.text.most ≡ 1
  pub as_stands : s.fixedtail ≡ true → s.text.av ≡ false
  pub no_interval : s.header ≡ false → s.interval ≡ false
  pub digits_some : 1 ≤ s.itemdigits
  pub digits_few : s.itemdigits ≤ 14
  pub item_low : s.itemmax ≤ 99999999999999
  pub item-fits : s.itemmax < 10 ^ s.itemdigits
  pub days : s.ahead ≤ 36525
  pub kind_first : 1501 ≤ s.lastkind
  pub kind_last : s.lastkind ≤ 1504
  pub bank_low : s.bank ≤ 9999
  pub items_low : s.fileitems ≤ 99999000

-- a test that holds unless another one does
unless : (t u : Bool) → (t || not u) ≡ true → t ≡ false → u ≡ false
unless t u e f = not-true u (rw f at e)

-- .. or another one holds
holds-or : (t u : Bool) → (t || u) ≡ true → t ≡ false → u ≡ true
holds-or t u e f = rw f at e

-- each bound is tested of every known sheet
pub sane : (n : ℕ) (s : Sheet) → sheet_of n ≡ Some s → Sane s
sane n s h =
    let holds = every-sheet n s h in
    record {
      base_some = leb-true _ _ (holds (λ x. leb 1 x.basemin) refl);
      base_few = leb-true _ _ (holds (λ x. leb x.basemin 2) refl);
      parts_some = ltb-true _ _ (holds (λ x. ltb 0 x.text.most) refl);
      parts_few = leb-true _ _ (holds (λ x. leb x.text.most 4) refl);
      names_av = unless _ _ (holds (λ x. x.text.av || not x.text.names) refl);
      part_alone = λ e. eqb-true _ _ (holds-or s.text.av (eqb s.text.most 1) (holds (λ x. x.text.av || eqb x.text.most 1) refl) e);
      as_stands = λ e. unless (not s.fixedtail) _ (holds (λ x. not x.fixedtail || not x.text.av) refl) (rw e);
      no_interval = unless _ _ (holds (λ x. x.header || not x.interval) refl);
      digits_some = leb-true _ _ (holds (λ x. leb 1 x.itemdigits) refl);
      digits_few = leb-true _ _ (holds (λ x. leb x.itemdigits 14) refl);
      item_low = leb-true _ _ (holds (λ x. leb x.itemmax 99999999999999) refl);
      item-fits = ltb-true _ _ (holds (λ x. ltb x.itemmax (10 ^ x.itemdigits)) refl);
      days = leb-true _ _ (holds (λ x. leb x.ahead 36525) refl);
      kind_first = leb-true _ _ (holds (λ x. leb 1501 x.lastkind) refl);
      kind_last = leb-true _ _ (holds (λ x. leb x.lastkind 1504) refl);
      bank_low = leb-true _ _ (holds (λ x. leb x.bank 9999) refl);
      items_low = leb-true _ _ (holds (λ x. leb x.fileitems 99999000) refl);
    }

-- the same of a sheet that was looked up
pub sheet-sane : (r : Option Sheet) (n : ℕ) → r ≡ sheet_of n → (s : Sheet) → r ≡ Some s → Sane s
sheet-sane r n g s e = sane n s (sym g ∙ e)
