-- The spelling of an account, with and without a prefix: its length, and room for it. Assumes nothing.
use mathlib.Core.Path.{◌≡◌, refl, sym, ap, ◌∙◌}
use mathlib.Core.List.{List, [], ◌∷◌, ◌++◌}
use Prim.Native.Nat.{ℕ, ◌+◌, ◌≤◌, ◌<◌}
use native.Mathlib.Omega.{arith}
use lib.ListN.{length, length-append}
use borrow.Author.Tests.{eq-eqb, ne_eqb}
use Rattle.base.specs.Put.{Wrote}
use Rattle.base.proofs.Put.{◌then◌}
use Rattle.base.proofs.Cases.{pick_true, pick-false}
use Rattle.out.proofs.put.Room.{wrote-length}
use Rattle.paper.specs.Numerals.{decimal}
use Rattle.paper.specs.Accounts.{account, spell_account}

module _ (p b : ℕ) where
  pub spelled-alone : p ≡ 0 → spell_account (account p b) ≡ decimal b
  unfolding spell_account
  spelled-alone e = pick_true _ _ (eq-eqb p 0 e)

  pub spelled-both : (p ≡ 0 → ⊥) → spell_account (account p b) ≡ decimal p ++ (45 ∷ decimal b)
  unfolding spell_account
  spelled-both n = pick-false _ _ (ne_eqb p 0 n)

  -- `account_len`
  module _ (w : ℕ) (g : w ≡ length (decimal b)) where
    pub long-alone : p ≡ 0 → w ≡ length (spell_account (account p b))
    long-alone e = g ∙ ap length (sym (spelled-alone e))

    pub long-both : (p ≡ 0 → ⊥) → (v : ℕ) → v ≡ length (decimal p) → v + 1 + w ≡ length (spell_account (account p b))
    long-both n v h = rw (spelled-both n) (omega (arith, length-append (decimal p) (45 ∷ decimal b)))

  -- `put_account`
  module _ (o : List ℕ) (at : ℕ) where
    module _ (e : p ≡ 0) where
      pub room-alone : at + length (spell_account (account p b)) ≤ length o → at + length (decimal b) ≤ length o
      room-alone h = omega (arith, long-alone (length (decimal b)) refl e)

      pub wrote-alone : (o1 : List ℕ) (q : ℕ) → Wrote o at (decimal b) o1 q → Wrote o at (spell_account (account p b)) o1 q
      wrote-alone o1 q w = rw (spelled-alone e) w

    module _ (n : p ≡ 0 → ⊥) where
      module _ (h : at + length (spell_account (account p b)) ≤ length o) where
        long : length (spell_account (account p b)) ≡ length (decimal p) + 1 + length (decimal b)
        long = sym (long-both (length (decimal b)) refl n (length (decimal p)) refl)

        pub room-prefix : at + length (decimal p) ≤ length o
        room-prefix = omega (arith, long)

        module _ (o1 : List ℕ) (q : ℕ) (v : Wrote o at (decimal p) o1 q) where
          pub room-dash : q < length o1
          room-dash = omega (arith, long, v.next, wrote-length v)

          pub room-base : (x : ℕ) (o2 : List ℕ) (r : ℕ) → Wrote o1 q (x ∷ []) o2 r → r + length (decimal b) ≤ length o2
          room-base x o2 r w = omega (arith, long, v.next, w.next, wrote-length v, wrote-length w)

      pub wrote-both : (o1 o2 o3 : List ℕ) (q r t : ℕ) → Wrote o at (decimal p) o1 q → Wrote o1 q (45 ∷ []) o2 r → Wrote o2 r (decimal b) o3 t
          → Wrote o at (spell_account (account p b)) o3 t
      wrote-both o1 o2 o3 q r t u v w = rw (spelled-both n) (u then v then w)

pub ruleset spelled = (long-alone, long-both, room-alone, wrote-alone, room-prefix, room-dash, room-base, wrote-both)
