-- A field of a line or a record whose value is known. Assumes nothing.
use mathlib.Core.Path.{◌≡◌}
use Prim.Native.Nat.{ℕ}
use Rattle.paper.specs.Read.{Field, value}
use Rattle.paper.specs.Entries.{Said, on_field}

pub on-back : {A B : Type 0} (at : ℕ) (x : Field A) (v : A) (k : A → Said B) → x ≡ value v → on_field at x k ≡ k v
unfolding on_field
on-back at x v k e = rw e
