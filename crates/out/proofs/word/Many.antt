-- Words put one after the other: what they leave, and the room for the next. Assumes nothing.
use mathlib.Core.Path.{◌≡◌, ap, ◌∙◌}
use mathlib.Core.List.{List, [], ◌∷◌, ◌++◌, append-nil}
use Prim.Native.Nat.{ℕ, ◌+◌, ◌*◌, ◌≤◌, ◌<◌}
use native.Mathlib.Numerals.{add-one}
use native.Mathlib.Omega.{arith}
use lib.ListN.{length, take, get_or, length-take}
use lib.Seq.{take-suc}
use Rattle.base.specs.Put.{Wrote}
use Rattle.base.proofs.Put.{◌then◌}
use Rattle.paper.specs.Words.{word_bytes, words_bytes}
use Rattle.out.proofs.put.Room.{wrote-length, wrote_none}
use Rattle.out.proofs.word.Laws.{words-length, words_append}

-- the first i + 1 words are the first i and one more
words-next : (ws : List ℕ) (i : ℕ) → i < length ws → words_bytes (take (i + 1) ws) ≡ words_bytes (take i ws) ++ word_bytes 8 (get_or ws i 0)
unfolding words_bytes
words-next ws i h =
    rw (add-one, take-suc ws i 0 h) (words_append (take i ws) (get_or ws i 0 ∷ []) ∙ ap (λ (l : List ℕ). words_bytes (take i ws) ++ l) (append-nil (word_bytes 8 (get_or ws i 0))))

-- nothing is put yet
pub row_first : (o : List ℕ) (at : ℕ) (ws : List ℕ) → at ≤ length o → Wrote o at (words_bytes (take 0 ws)) o at
unfolding words_bytes
row_first o at [] h = wrote_none o at h
row_first o at (w ∷ ws) h = wrote_none o at h

module _ (o o1 ws : List ℕ) (at p i : ℕ) (v : Wrote o at (words_bytes (take i ws)) o1 p) where
  -- where the next word goes
  row-place : i ≤ length ws → p ≡ at + 8 * i
  row-place h =
      let few : length (take i ws) ≡ i = simp length-take (omega arith) in
      omega (arith, v.next, words-length (take i ws))

  pub row_room : i < length ws → at + 8 * length ws ≤ length o → p + 8 ≤ length o1
  row_room h r = omega (arith, row-place (omega arith), wrote-length v)

  -- one word more
  pub row_next : (o2 : List ℕ) (q : ℕ) → i < length ws → Wrote o1 p (word_bytes 8 (get_or ws i 0)) o2 q → Wrote o at (words_bytes (take (i + 1) ws)) o2 q
  row_next o2 q h w = rw (words-next ws i h) (v then w)

pub ruleset puts = (row_first, row_room, row_next)
