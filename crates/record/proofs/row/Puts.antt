-- A row put part after part: room for each, and all of it. Assumes nothing.
use mathlib.Core.Path.{◌≡◌}
use mathlib.Core.List.{List, [], ◌∷◌}
use Prim.Native.Nat.{ℕ, ◌+◌, ◌≤◌}
use native.Mathlib.Omega.{arith}
use lib.ListN.{length, replicate}
use Rattle.base.specs.Put.{Wrote}
use Rattle.base.proofs.Put.{◌then◌}
use Rattle.paper.specs.Words.{words_bytes, blanks}
use Rattle.paper.specs.Accounts.{account}
use Rattle.out.proofs.word.Laws.{words-length}
use Rattle.gpc.specs.Signed.{Signed as Number, signed_word}
use Rattle.gpc.specs.StatementRows.{head_row, movement_row}
use Rattle.record.proofs.file.Puts.{behind}

-- the eight words of a row
abbrev eight : ℕ → ℕ → ℕ → ℕ → ℕ → ℕ → ℕ → ℕ → List ℕ
eight a b c d e f g h = words_bytes (a ∷ b ∷ c ∷ d ∷ e ∷ f ∷ g ∷ h ∷ [])

-- ---- room

module _ (a b c d e f g h : ℕ) (before o o1 : List ℕ) (at i : ℕ) (w : Wrote o at (eight a b c d e f g h) o1 i) (room : at + 136 ≤ length o) where
  left-72 : i + 72 ≤ length o1
  left-72 = behind 64 72 w (words-length (a ∷ b ∷ c ∷ d ∷ e ∷ f ∷ g ∷ h ∷ [])) room

  -- of a head
  module _ (long : length before ≡ 26) where
    pub head-before : i + length before ≤ length o1
    head-before = omega (arith, left-72)

    module _ (after o2 : List ℕ) (j : ℕ) (v : Wrote o1 i before o2 j) (short : length after ≡ 23) where
      pub head-behind : j + length after ≤ length o2
      head-behind = omega (arith, behind 26 46 v long left-72)

      pub head-unused : (o3 : List ℕ) (k : ℕ) → Wrote o2 j after o3 k → k + 23 ≤ length o3
      head-unused o3 k u = behind 23 23 u short (behind 26 46 v long left-72)

  -- of a movement
  module _ (long : length before ≡ 13) where
    pub movement-before : i + length before ≤ length o1
    movement-before = omega (arith, left-72)

    module _ (after o2 : List ℕ) (j : ℕ) (v : Wrote o1 i before o2 j) (short : length after ≡ 57) where
      pub movement-behind : j + length after ≤ length o2
      movement-behind = omega (arith, behind 13 59 v long left-72)

      pub movement-unused : (o3 : List ℕ) (k : ℕ) → Wrote o2 j after o3 k → k + 2 ≤ length o3
      movement-unused o3 k u = behind 57 2 u short (behind 13 59 v long left-72)

-- ---- all of it

module _ (p b : ℕ) (before after : List ℕ) {o o1 o2 o3 o4 : List ℕ} {at i j k l : ℕ} where
  pub head-row : (w3 w4 w5 w6 : ℕ) (old new debit credit : Number) → Wrote o at (eight 74 p b w3 w4 w5 w6 0) o1 i → Wrote o1 i before o2 j → Wrote o2 j after o3 k → Wrote o3 k (replicate 23 0) o4 l
      → w3 ≡ signed_word old → w4 ≡ signed_word new → w5 ≡ signed_word debit → w6 ≡ signed_word credit
      → Wrote o at (head_row (record { account = account p b; before = before; old = old; new = new; debit = debit; credit = credit; behind = after })) o4 l
  unfolding head_row blanks
  head-row w3 w4 w5 w6 old new debit credit w v u t e3 e4 e5 e6 = rw (← e3, ← e4, ← e5, ← e6) (w then v then u then t)

  pub movement-row : (q c amount code variable : ℕ) → Wrote o at (eight 75 p b q c amount code variable) o1 i → Wrote o1 i before o2 j → Wrote o2 j after o3 k → Wrote o3 k (replicate 2 0) o4 l
      → Wrote o at
      (movement_row (record { account = account p b; other = account q c; before = before; amount = amount; code = code; variable = variable; behind = after }))
      o4
      l
  unfolding movement_row blanks
  movement-row q c amount code variable w v u t = w then v then u then t
