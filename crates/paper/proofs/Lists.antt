-- Empty lists told by their length, and lists that are kept last one first. Assumes nothing.
use mathlib.Core.Path.{◌≡◌, refl, sym}
use mathlib.Core.Bool.{true, false}
use mathlib.Core.List.{List, [], ◌∷◌}
use Prim.Native.Nat.{suc, ◌+◌, ◌≤◌}
use native.Mathlib.Omega.{arith}
use lib.Dec.{eqb}
use lib.ListN.{length}
use borrow.Author.Tests.{ne_eqb}
use Rattle.base.proofs.Seek.{never}
use Rattle.paper.specs.Bytes.{null}
use Rattle.paper.specs.Batch.{Item, Group, sum}
use Rattle.paper.specs.Spells.{group_items}
use Rattle.paper.specs.Judge.{rev_on}

-- ---- empty

-- the code's test of an empty text
pub empty-null : {A : Type 0} (a : List A) → eqb (length a) 0 ≡ null a
unfolding null
empty-null [] = refl
empty-null (x ∷ a) = ne_eqb (suc (length a)) 0 (λ e. absurd (omega arith))

pub null-none : {A : Type 0} (a : List A) → null a ≡ true → a ≡ []
unfolding null
null-none [] e = refl
null-none (x ∷ a) e = never (sym e)

pub null-some : {A : Type 0} (a : List A) → null a ≡ false → 1 ≤ length a
unfolding null
null-some [] e = never e
null-some (x ∷ a) e = omega arith

pub some-null : {A : Type 0} (a : List A) → 1 ≤ length a → null a ≡ false
unfolding null
some-null [] e = absurd (omega arith)
some-null (x ∷ a) e = refl

-- ---- last one first

pub length-rev : {A : Type 0} (a m : List A) → length (rev_on a m) ≡ length a + length m
length-rev [] m = omega arith
length-rev (x ∷ a) m = omega (arith, length-rev a (x ∷ m))

pub items-rev : (a m : List Group) → group_items (rev_on a m) ≡ group_items a + group_items m
unfolding group_items
items-rev [] m = omega arith
items-rev (g ∷ a) m = omega (arith, items-rev a (g ∷ m))

pub sum-rev : (a m : List Item) → sum (rev_on a m) ≡ sum a + sum m
unfolding sum
sum-rev [] m = omega arith
sum-rev (x ∷ a) m = omega (arith, sum-rev a (x ∷ m))
