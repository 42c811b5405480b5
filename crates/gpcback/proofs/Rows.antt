-- The row of a thing that can be written has 136 bytes, and holds that thing. Assumes nothing.
use mathlib.Core.Path.{◌≡◌, refl, sym, ap, ◌∙◌}
use mathlib.Core.List.{List, [], ◌∷◌, ◌++◌}
use Prim.Native.Nat.{ℕ, ◌+◌, ◌*◌, ◌^◌, ◌<◌}
use native.Mathlib.Omega.{arith}
use lib.ListN.{length, get_or}
use Rattle.base.specs.Pick.{pick}
use Rattle.base.proofs.Cases.{either}
use Rattle.paper.specs.Words.{blanks, words_bytes}
use Rattle.out.specs.word.Sizes.{Small}
use Rattle.out.proofs.word.Laws.{words-length, words_back, word-here}
use Rattle.turnover.proofs.Laws.{word_back}
use Rattle.gpc.specs.Parts.{slice}
use Rattle.gpc.specs.Signed.{Signed, Fourteen, negative, signed_word}
use Rattle.gpc.specs.Records.{Head, Movement, Thing, a_head, a_movement, strange}
use Rattle.gpc.specs.StatementRows.{word_in, head_in, movement_in, thing_in, head_row, movement_row, thing_row}
use Rattle.gpcback.specs.Proper.{ProperHead, ProperMovement, Proper}
use Rattle.gpcback.proofs.Segments.{Sized, extent, start_of, segment, joined_length}
use Rattle.gpcback.proofs.Fields.{code-digit}

-- ---- a row: eight words, two texts that are kept, and what is not used

module _ (ws rest : List ℕ) (eight : length ws ≡ 8) where
  -- the words of a row are those that were put there
  row_word : Small ws → (i : ℕ) → i < 8 → word_in (words_bytes ws ++ rest) i ≡ get_or ws i 0
  row_word s i h =
      let z : 8 * i ≡ 0 + 8 * i = omega arith in
      rw z (sym (word-here 8 (words_bytes ws ++ rest) 0 i h) ∙ ap (λ (l : List ℕ). get_or l i 0) (words_back 8 ws rest eight s))

  module _ (a b : List ℕ) (n m : ℕ) (first : length a ≡ n) (second : length b ≡ m) where
    sized : Sized (64 ∷ n ∷ m ∷ []) (words_bytes ws ∷ a ∷ b ∷ [])
    sized = (omega (arith, words-length ws), (first, (second, tt)))

    -- the texts are where they were put: k is 1 for the first, 2 for the second
    row_kept : (k : ℕ) → k < 3
        → slice (start_of (64 ∷ n ∷ m ∷ []) k) (get_or (64 ∷ n ∷ m ∷ []) k 0) (words_bytes ws ++ (a ++ (b ++ rest))) ≡ get_or (words_bytes ws ∷ a ∷ b ∷ []) k []
    row_kept k l = segment rest (64 ∷ n ∷ m ∷ []) (words_bytes ws ∷ a ∷ b ∷ []) sized k l

    row-long : length (words_bytes ws ++ (a ++ (b ++ rest))) ≡ extent (64 ∷ n ∷ m ∷ []) + length rest
    row-long = joined_length rest (64 ∷ n ∷ m ∷ []) (words_bytes ws ∷ a ∷ b ∷ []) sized

-- two's complement fits a word
signed-fits : (x : Signed) → Fourteen x → signed_word x < 2 ^ 64
unfolding signed_word negative
signed-fits x f = either (λ (w : ℕ). w < 2 ^ 64) x.minus (λ e. omega arith) (λ e. omega (arith, f.small))

-- ---- a head's

abbrev head_words : Head → List ℕ
head_words h =
    74
    ∷ h.account.prefix
    ∷ h.account.base
    ∷ signed_word h.old
    ∷ signed_word h.new
    ∷ signed_word h.debit
    ∷ signed_word h.credit
    ∷ 0
    ∷ []

module _ (h : Head) (p : ProperHead h) where
  head-fits : Small (head_words h)
  head-fits = (
    omega arith,
    (
      omega (arith, p.account.prefix),
      (
        omega (arith, p.account.base),
        (
          signed-fits h.old p.old,
          (signed-fits h.new p.new, (signed-fits h.debit p.debit, (signed-fits h.credit p.credit, (omega arith, tt)))),
        ),
      ),
    ),
  )

  head-word : (i : ℕ) → i < 8 → word_in (head_row h) i ≡ get_or (head_words h) i 0
  unfolding head_row
  head-word i l = row_word (head_words h) (h.before ++ (h.behind ++ blanks 23)) refl head-fits i l

  head-before : slice 64 26 (head_row h) ≡ h.before
  unfolding head_row
  head-before = row_kept (head_words h) (blanks 23) refl h.before h.behind 26 23 p.before p.behind 1 (omega arith)

  head-behind : slice 90 23 (head_row h) ≡ h.behind
  unfolding head_row
  head-behind = row_kept (head_words h) (blanks 23) refl h.before h.behind 26 23 p.before p.behind 2 (omega arith)

  head-long : length (head_row h) ≡ 136
  unfolding head_row blanks
  head-long = row-long (head_words h) (blanks 23) refl h.before h.behind 26 23 p.before p.behind

  head-held : head_in (head_row h) ≡ h
  unfolding head_in
  head-held =
      rw (
        head-word 1 (omega arith),
        head-word 2 (omega arith),
        head-word 3 (omega arith),
        head-word 4 (omega arith),
        head-word 5 (omega arith),
        head-word 6 (omega arith),
        word_back h.old p.old,
        word_back h.new p.new,
        word_back h.debit p.debit,
        word_back h.credit p.credit,
        head-before,
        head-behind,
      )
      refl

-- ---- a movement's

abbrev movement_words : Movement → List ℕ
movement_words m =
    75
    ∷ m.account.prefix
    ∷ m.account.base
    ∷ m.other.prefix
    ∷ m.other.base
    ∷ m.amount
    ∷ m.code
    ∷ m.variable
    ∷ []

module _ (m : Movement) (p : ProperMovement m) where
  movement-fits : Small (movement_words m)
  movement-fits = (
    omega arith,
    (
      omega (arith, p.account.prefix),
      (
        omega (arith, p.account.base),
        (
          omega (arith, p.other.prefix),
          (omega (arith, p.other.base), (omega (arith, p.amount), (omega (arith, (code-digit m.code p.code).1), (omega (arith, p.variable), tt)))),
        ),
      ),
    ),
  )

  movement-word : (i : ℕ) → i < 8 → word_in (movement_row m) i ≡ get_or (movement_words m) i 0
  unfolding movement_row
  movement-word i l = row_word (movement_words m) (m.before ++ (m.behind ++ blanks 2)) refl movement-fits i l

  movement-before : slice 64 13 (movement_row m) ≡ m.before
  unfolding movement_row
  movement-before = row_kept (movement_words m) (blanks 2) refl m.before m.behind 13 57 p.before p.behind 1 (omega arith)

  movement-behind : slice 77 57 (movement_row m) ≡ m.behind
  unfolding movement_row
  movement-behind = row_kept (movement_words m) (blanks 2) refl m.before m.behind 13 57 p.before p.behind 2 (omega arith)

  movement-long : length (movement_row m) ≡ 136
  unfolding movement_row blanks
  movement-long = row-long (movement_words m) (blanks 2) refl m.before m.behind 13 57 p.before p.behind

  movement-held : movement_in (movement_row m) ≡ m
  unfolding movement_in
  movement-held =
      rw (
        movement-word 1 (omega arith),
        movement-word 2 (omega arith),
        movement-word 3 (omega arith),
        movement-word 4 (omega arith),
        movement-word 5 (omega arith),
        movement-word 6 (omega arith),
        movement-word 7 (omega arith),
        movement-before,
        movement-behind,
      )
      refl

-- ---- a thing's

pub row-length : (t : Thing) → Proper t → length (thing_row t) ≡ 136
unfolding thing_row
row-length (a_head h) p = head-long h p
row-length (a_movement m) p = movement-long m p
row-length strange p = absurd p

pub row_back : (t : Thing) → Proper t → thing_in (thing_row t) ≡ t
unfolding thing_row thing_in pick
row_back (a_head h) p = rw (head-long h p, head-word h p 0 (omega arith), head-held h p) refl
row_back (a_movement m) p = rw (movement-long m p, movement-word m p 0 (omega arith), movement-held m p) refl
row_back strange p = absurd p
