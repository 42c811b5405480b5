-- A head and a movement put field after field: room for each, and all of it. Assumes nothing.
use mathlib.Core.Path.{◌≡◌}
use mathlib.Core.List.{List, ◌++◌, append_assoc}
use Prim.Native.Nat.{ℕ, ◌+◌, ◌≤◌}
use native.Mathlib.Omega.{arith}
use lib.ListN.{length}
use Rattle.base.specs.Put.{Wrote}
use Rattle.base.proofs.Put.{◌then◌}
use Rattle.paper.specs.Accounts.{Account, account}
use Rattle.gpc.specs.Internal.{spell_internal}
use Rattle.gpc.specs.Signed.{Signed as Number, spell_signed}
use Rattle.gpc.specs.Records.{crlf, spell_head, spell_movement}
use Rattle.internal.proofs.Laws.{account-length}
use Rattle.record.proofs.file.Puts.{front, numbers, behind, pair-length, numbers-length}

abbrev two : ℕ → Number → Number → List ℕ
two plus x y = spell_signed plus x ++ spell_signed plus y

-- behind type and account
behind-front : (last : ℕ) (a : Account) {o o1 : List ℕ} {at p : ℕ} → Wrote o at (front last a) o1 p → at + 130 ≤ length o → p + 111 ≤ length o1
behind-front last a w h = behind 19 111 w (omega (arith, account-length a)) h

-- ---- `put_head`: the type's last byte is `last`, the account's numbers are p and b

module _ (last p b : ℕ) (before o o1 : List ℕ) (at i : ℕ) where
  module _ (w : Wrote o at (front last (account p b)) o1 i) (h : at + 130 ≤ length o) (long : length before ≡ 26) where
    pub before-room : i + length before ≤ length o1
    before-room = omega (arith, behind-front last (account p b) w h)

    module _ (o2 : List ℕ) (j : ℕ) (v : Wrote o1 i before o2 j) where
      left-85 : j + 85 ≤ length o2
      left-85 = behind 26 85 v long (behind-front last (account p b) w h)

      pub balances-room : j + 30 ≤ length o2
      balances-room = omega (arith, left-85)

      module _ (old new : Number) (o3 : List ℕ) (k : ℕ) (u : Wrote o2 j (two 43 old new) o3 k) where
        left-55 : k + 55 ≤ length o3
        left-55 = behind 30 55 u (pair-length 43 old new) left-85

        pub turnovers-room : k + 30 ≤ length o3
        turnovers-room = omega (arith, left-55)

        pub end-room : (debit credit : Number) (o4 : List ℕ) (l n : ℕ) → Wrote o3 k (two 48 debit credit) o4 l → n ≡ 23 → l + n + 2 ≤ length o4
        end-room debit credit o4 l n t short = omega (arith, behind 30 25 t (pair-length 48 debit credit) left-55)

module _ (p b : ℕ) (before o o1 : List ℕ) (at i : ℕ) where
  pub head-put : (old new debit credit : Number) (after : List ℕ) {o2 o3 o4 o5 : List ℕ} {j k l m : ℕ} → Wrote o at (front 52 (account p b)) o1 i → Wrote o1 i before o2 j
      → Wrote o2 j (two 43 old new) o3 k → Wrote o3 k (two 48 debit credit) o4 l → Wrote o4 l (after ++ crlf) o5 m
      → Wrote o at (spell_head (record { account = account p b; before = before; old = old; new = new; debit = debit; credit = credit; behind = after })) o5 m
  unfolding spell_head
  head-put old new debit credit after w v u t s = simp append_assoc at (w then v then u then t then s)

-- ---- `put_movement`: the other account's numbers are q and c

module _ (last p b : ℕ) (o o1 : List ℕ) (at i : ℕ) where
  module _ (w : Wrote o at (front last (account p b)) o1 i) (h : at + 130 ≤ length o) where
    left-111 : i + 111 ≤ length o1
    left-111 = behind-front last (account p b) w h

    pub other-room : i + 16 ≤ length o1
    other-room = omega (arith, left-111)

    module _ (q c : ℕ) (o2 : List ℕ) (j : ℕ) (v : Wrote o1 i (spell_internal (account q c)) o2 j) where
      left-95 : j + 95 ≤ length o2
      left-95 = behind 16 95 v (account-length (account q c)) left-111

      pub document-room : (n : ℕ) → n ≡ 13 → j + n ≤ length o2
      document-room n e = omega (arith, left-95)

      module _ (before o3 : List ℕ) (k : ℕ) (u : Wrote o2 j before o3 k) (long : length before ≡ 13) where
        left-82 : k + 82 ≤ length o3
        left-82 = behind 13 82 u long left-95

        pub numbers-room : k + 23 ≤ length o3
        numbers-room = omega (arith, left-82)

        pub rest-room : (amount code variable : ℕ) (o4 : List ℕ) (l n : ℕ) → Wrote o3 k (numbers amount code variable) o4 l → n ≡ 57 → l + n + 2 ≤ length o4
        rest-room amount code variable o4 l n t short = omega (arith, behind 23 59 t (numbers-length amount code variable) left-82)

module _ (p b : ℕ) (o o1 : List ℕ) (at i : ℕ) where
  pub movement-put : (q c : ℕ) (before : List ℕ) (amount code variable : ℕ) (after : List ℕ) {o2 o3 o4 o5 : List ℕ} {j k l m : ℕ} → Wrote o at (front 53 (account p b)) o1 i
      → Wrote o1 i (spell_internal (account q c)) o2 j → Wrote o2 j before o3 k → Wrote o3 k (numbers amount code variable) o4 l → Wrote o4 l (after ++ crlf) o5 m
      → Wrote o at
      (spell_movement
      (record { account = account p b; other = account q c; before = before; amount = amount; code = code; variable = variable; behind = after }))
      o5
      m
  unfolding spell_movement
  movement-put q c before amount code variable after w v u t s = simp append_assoc at (w then v then u then t then s)
