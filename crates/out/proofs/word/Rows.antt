-- Rows of any number of words: as bytes and back, and from a place of lent bytes on. Assumes nothing.
use mathlib.Core.Path.{◌≡◌, refl, sym, ◌∙◌}
use mathlib.Core.List.{List, [], ◌∷◌, ◌++◌, append_assoc}
use Prim.Native.Nat.{ℕ, suc, ◌+◌, ◌*◌, ◌/◌, ◌≤◌, ◌<◌}
use native.Mathlib.Nat.{mul-zero, mul-suc, div-eq_of_lt, div-eq-sub-div, div-eq_of_eq-mul_right}
use native.Mathlib.Numerals.{add-one}
use native.Mathlib.Omega.{arith}
use lib.ListN.{length, drop, length-append, length-drop, drop_of_length-le}
use lib.Seq.{drop_at, drop-drop}
use Rattle.base.specs.Pick.{pick}
use Rattle.paper.specs.Bytes.{null}
use Rattle.paper.specs.Words.{words, rows_on, rows_of, words_bytes, rows_bytes}
use Rattle.out.specs.word.Sizes.{Long, Smalls}
use Rattle.out.specs.word.Places.{rows_from}
use Rattle.out.proofs.word.Laws.{words-length, words_back}

-- ---- rows as bytes

pub rows_append : (a b : List (List ℕ)) → rows_bytes (a ++ b) ≡ rows_bytes a ++ rows_bytes b
unfolding rows_bytes
rows_append [] b = refl
rows_append (r ∷ a) b = rw (rows_append a b) (sym (append_assoc (words_bytes r) (rows_bytes a) (rows_bytes b)))

pub long-append : (w : ℕ) (rs qs : List (List ℕ)) → Long w rs → Long w qs → Long w (rs ++ qs)
long-append w [] qs l m = m
long-append w (r ∷ rs) qs (l, ls) m = (l, long-append w rs qs ls m)

pub rows-length : (w : ℕ) (rs : List (List ℕ)) → Long w rs → length (rows_bytes rs) ≡ 8 * w * length rs
unfolding rows_bytes
rows-length w [] l = sym (mul-zero (8 * w))
rows-length w (r ∷ rs) (l, ls) = length-append (words_bytes r) (rows_bytes rs) ∙ omega (arith, words-length r, rows-length w rs ls, mul-suc (8 * w) (length rs))

-- ---- and back

rows-on-back : (w : ℕ) (rs : List (List ℕ)) → Long w rs → Smalls rs → rows_on w (length rs) (rows_bytes rs) ≡ rs
unfolding rows_on rows_bytes pick null
rows-on-back w [] l s = refl
rows-on-back w (r ∷ rs) (l, ls) (s, ss) =
    let n : length (words_bytes r) ≡ 8 * w = words-length r ∙ omega arith in
    rw (words_back w r (rows_bytes rs) l s, drop_at (words_bytes r) (rows_bytes rs) (8 * w) n, rows-on-back w rs ls ss)

-- rows of w words that fit eight bytes are got back from their bytes
pub rows_back : (w : ℕ) → 0 < w → (rs : List (List ℕ)) → Long w rs → Smalls rs → rows_of w (rows_bytes rs) ≡ rs
unfolding rows_of
rows_back w p rs l s =
    let n : length (rows_bytes rs) / (8 * w) ≡ length rs = div-eq_of_eq-mul_right (omega arith) (rows-length w rs l) in
    rw n (rows-on-back w rs l s)

-- ---- lent bytes: a row and those behind it, none, or bytes that are left over

module _ (w : ℕ) (p : 0 < w) where
  -- as many bytes as a row has, or more, begin with one
  rows-one : (s : List ℕ) → 8 * w ≤ length s → rows_of w s ≡ words w s ∷ rows_of w (drop (8 * w) s)
  unfolding rows_of rows_on
  rows-one s h =
      let e : length s / (8 * w) ≡ suc (length (drop (8 * w) s) / (8 * w)) = rw length-drop (div-eq-sub-div (omega arith) h ∙ add-one _) in
      rw e

  -- fewer hold none
  rows_few : (s : List ℕ) → length s < 8 * w → rows_of w s ≡ pick (null s) [] ([] ∷ [])
  unfolding rows_of rows_on
  rows_few s h = rw (div-eq_of_lt h)

  rows_left : (s : List ℕ) → 0 < length s → length s < 8 * w → rows_of w s ≡ [] ∷ []
  unfolding null pick
  rows_left [] q h = absurd (omega arith)
  rows_left (x ∷ s) q h = rows_few (x ∷ s) h

  module _ (s : List ℕ) (at : ℕ) where
    pub rows_step : at + 8 * w ≤ length s → rows_from w s at ≡ words w (drop at s) ∷ rows_from w s (at + 8 * w)
    rows_step h = rows-one (drop at s) (omega (arith, length-drop at s)) ∙ rw (drop-drop (8 * w) at s)

    pub rows_end : length s ≤ at → rows_from w s at ≡ []
    unfolding null pick
    rows_end h = rw (drop_of_length-le s h) (rows_few [] (omega arith))

    pub rows-rest : at < length s → length s < at + 8 * w → rows_from w s at ≡ [] ∷ []
    rows-rest q h = rows_left (drop at s) (omega (arith, length-drop at s)) (omega (arith, length-drop at s))
