-- What the row at a place says, by the words that stand there; and the ways out of `read_row` and `take_row`. Assumes nothing.
use mathlib.Core.Path.{◌≡◌, sym, ◌∙◌}
use mathlib.Core.List.{List}
use Prim.Native.Nat.{ℕ, suc, ◌+◌, ◌*◌, ◌<◌}
use native.Mathlib.Nat.{add-zero}
use native.Mathlib.Omega.{arith}
use lib.Dec.{lit<}
use lib.ListN.{drop, get_or}
use borrow.Author.Tests.{ne_eqb}
use Rattle.base.specs.Pick.{pick}
use Rattle.base.proofs.Cases.{by-eq}
use Rattle.paper.specs.Accounts.{account}
use Rattle.paper.specs.Batch.{a_file, a_group, strange}
use Rattle.paper.specs.Words.{words}
use Rattle.paper.specs.Rows.{text_at, item_in, thing_in}
use Rattle.out.specs.word.Places.{word_here}
use Rattle.out.proofs.word.Laws.{word-here}
use Rattle.rows.specs.declared.read.ItemRow.{ItemRow}
use Rattle.rows.specs.read.Told.{text_of_span, item_of, told_item, span_here, item_here}

module _ (rows : List ℕ) (at : ℕ) where
  -- the row's word i
  w : (i : ℕ) → i < 24 → get_or (words 24 (drop at rows)) i 0 ≡ word_here rows (at + 8 * i)
  w i h = word-here 24 rows at i h

  module _ (t : List ℕ) where
    -- a text of the row
    text-here : (i : ℕ) → suc i < 24 → text_at t (words 24 (drop at rows)) i ≡ text_of_span t (span_here rows (at + 8 * i))
    unfolding text_at text_of_span
    text-here i h =
        let e : at + 8 * suc i ≡ at + 8 * i + 8 = omega arith in
        rw (w i (omega arith), w (suc i) h, e)

    item-here : item_in t (words 24 (drop at rows)) ≡ item_of t (item_here rows at)
    item-here =
        rw (
          w 1 (lit< tt),
          w 2 (lit< tt),
          w 3 (lit< tt),
          w 4 (lit< tt),
          w 5 (lit< tt),
          w 6 (lit< tt),
          w 7 (lit< tt),
          w 8 (lit< tt),
          w 9 (lit< tt),
          w 10 (lit< tt),
          text-here 11 (lit< tt),
          text-here 13 (lit< tt),
          text-here 15 (lit< tt),
          text-here 17 (lit< tt),
          text-here 19 (lit< tt),
        )

  module _ (kind : ℕ) (e : kind ≡ word_here rows at) where
    first : get_or (words 24 (drop at rows)) 0 0 ≡ kind
    first = w 0 (lit< tt) ∙ rw (add-zero, e)

    pub item-exit : kind ≡ 3 → (x : ItemRow) → x ≡ item_here rows at → (t : List ℕ) → told_item t x ≡ thing_in t (words 24 (drop at rows))
    unfolding thing_in pick
    item-exit h x g t = rw (first, h, item-here t, w 21 (lit< tt), g)

    pub group-exit : kind ≡ 2 → (date prefix base : ℕ) → date ≡ word_here rows (at + 8) → prefix ≡ word_here rows (at + 16) → base ≡ word_here rows (at + 24)
        → (t : List ℕ) → a_group date (account prefix base) ≡ thing_in t (words 24 (drop at rows))
    unfolding thing_in pick
    group-exit h date prefix base d p b t = rw (first, h, w 1 (lit< tt), w 2 (lit< tt), w 3 (lit< tt), d, p, b)

    pub file-exit : kind ≡ 1 → (k n : ℕ) → k ≡ word_here rows (at + 8) → n ≡ word_here rows (at + 16) → (t : List ℕ) → a_file k n ≡ thing_in t (words 24 (drop at rows))
    unfolding thing_in pick
    file-exit h k n a b t = rw (first, h, w 1 (lit< tt), w 2 (lit< tt), a, b)

    pub strange-exit : (kind ≡ 3 → ⊥) → (kind ≡ 2 → ⊥) → (kind ≡ 1 → ⊥) → (t : List ℕ) → strange ≡ thing_in t (words 24 (drop at rows))
    unfolding thing_in pick
    strange-exit a b c t = rw (first, ne_eqb kind 3 a, ne_eqb kind 2 b, ne_eqb kind 1 c)

    -- where the row is of a known kind, it is an account file if it is neither of the others
    module _ (t : List ℕ) (known : thing_in t (words 24 (drop at rows)) ≡ strange → ⊥) where
      last-kind : (kind ≡ 3 → ⊥) → (kind ≡ 2 → ⊥) → kind ≡ 1
      last-kind a b = by-eq kind 1 (λ e. e) (λ c. absurd (known (sym (strange-exit a b c t))))

      pub file-taken : (kind ≡ 3 → ⊥) → (kind ≡ 2 → ⊥) → (k n : ℕ) → k ≡ word_here rows (at + 8) → n ≡ word_here rows (at + 16)
          → a_file k n ≡ thing_in t (words 24 (drop at rows))
      file-taken a b k n c d = file-exit (last-kind a b) k n c d t

pub ruleset exits = (item-exit, group-exit, file-exit, strange-exit)

pub ruleset takes = (item-exit, group-exit, file-taken)
