-- The words of a text that lies in its line, and that such texts are within reach. Assumes nothing.
use mathlib.Core.Path.{◌≡◌, refl, ap}
use mathlib.Core.Bool.{false}
use mathlib.Core.List.{List, [], ◌∷◌}
use Prim.Native.Nat.{ℕ, zero, suc, ◌+◌, ◌≤◌, ◌<◌}
use native.Mathlib.Omega.{arith}
use lib.Dec.{eqb}
use lib.ListN.{length, take, drop, length-take, length-drop}
use borrow.Author.Tests.{ne_eqb}
use Rattle.base.specs.Pick.{pick}
use Rattle.base.specs.Put.{Wrote}
use Rattle.paper.specs.Bytes.{null}
use Rattle.paper.specs.ItemLine.{places}
use Rattle.paper.specs.Words.{blanks, words_bytes}
use Rattle.paper.specs.Rows.{text_words, texts_words, item_row, text_spots}
use Rattle.text.specs.declared.span.Spans.{Spans}
use Rattle.text.specs.span.Held.{texts_at, Held}
use Rattle.itemline.specs.declared.Fields.{Fields}
use Rattle.itemline.specs.Told.{item_at}
use Rattle.fill.specs.itemrow.Place.{place_word, Reached}

-- the words of an item's row, the texts' places a, b, c, d and n
abbrev row_words : Fields → ℕ → ℕ → ℕ → ℕ → ℕ → List ℕ
row_words x a b c d n =
    3 ∷ x.payerprefix ∷ x.payerbase ∷ x.payeeprefix ∷ x.payeebase ∷ x.bank ∷ x.amount ∷ x.variable ∷ x.specific ∷ x.constant ∷ x.priority
    ∷ a ∷ x.texts.part1.len ∷ b ∷ x.texts.part2.len ∷ c ∷ x.texts.part3.len ∷ d ∷ x.texts.part4.len ∷ n ∷ x.texts.name.len
    ∷ 0 ∷ 0 ∷ 0 ∷ []

-- some bytes of a text that has so many
some-taken : (n : ℕ) (s : List ℕ) → n < length s → null (take (suc n) s) ≡ false
unfolding null
some-taken n [] h = absurd (omega arith)
some-taken n (x ∷ s) h = refl

-- place and length of a text
span-words : (start : ℕ) (s : List ℕ) (at len : ℕ) → at + len ≤ length s → text_words start at (take len (drop at s)) ≡ pick (eqb len 0) 0 (start + at) ∷ len ∷ []
unfolding text_words null pick
span-words start s at zero h = refl
span-words start s at (suc n) h =
    let more : n < length (drop at s) = omega (arith, length-drop at s) in
    let long : length (take (suc n) (drop at s)) ≡ suc n = omega (arith, length-take (suc n) (drop at s), length-drop at s) in
    rw (some-taken n (drop at s) more, long, ne_eqb (suc n) 0 (λ e. absurd (omega arith)))

-- words so placed are the row of the item that a line says
module _ (start : ℕ) (x : Fields) (a b c d n : ℕ) (ea : a ≡ place_word start x.texts.part1) (eb : b ≡ place_word start x.texts.part2)
    (ec : c ≡ place_word start x.texts.part3) (ed : d ≡ place_word start x.texts.part4) (en : n ≡ place_word start x.texts.name) where
  item-words : (s : List ℕ) → Held s x.texts → item_row start (text_spots (places (texts_at s x.texts))) (item_at s x) ≡ row_words x a b c d n
  unfolding item_row texts_words blanks
  item-words s h =
      let t = x.texts in
      rw (
        span-words start s t.part1.at t.part1.len h.first,
        span-words start s t.part2.at t.part2.len h.second,
        span-words start s t.part3.at t.part3.len h.third,
        span-words start s t.part4.at t.part4.len h.fourth,
        span-words start s t.name.at t.name.len h.named,
        ea,
        eb,
        ec,
        ed,
        en,
      )

  pub item-row : (o o1 : List ℕ) (at p : ℕ) → Wrote o at (words_bytes (row_words x a b c d n)) o1 p
      → (s : List ℕ) → Held s x.texts → Wrote o at (words_bytes (item_row start (text_spots (places (texts_at s x.texts))) (item_at s x))) o1 p
  item-row o o1 at p w s h = rw (item-words s h) w

-- they are 24
pub item-length : (start : ℕ) (x : Fields) (s : List ℕ) → Held s x.texts → length (item_row start (text_spots (places (texts_at s x.texts))) (item_at s x)) ≡ 24
item-length start x s h = ap length (item-words start x _ _ _ _ _ refl refl refl refl refl s h)

-- texts that lie in a line whose places a word can hold
pub reached : (start : ℕ) (s : List ℕ) (f : Spans) → Held s f → start + length s < 18446744073709551616 → Reached start f
reached start s f h l =
    record {
      first = omega (arith, h.first);
      second = omega (arith, h.second);
      third = omega (arith, h.third);
      fourth = omega (arith, h.fourth);
      named = omega (arith, h.named);
    }
