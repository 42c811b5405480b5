-- A field of a line, read at its place. Document 01, "Lines". Assumes nothing.
use Rattle.std.specs.Prelude.{ℕ, ◌+◌, List, drop}
use Rattle.base.specs.Seek.{seek}
use Rattle.paper.specs.Read.{Field, value, fault}
use Rattle.paper.specs.Bytes.{space, field_of}

-- a value of the kind A with the place where its field ends, or the refusal's number
pub data At (A : Type 0) : Type 0 where
  found : A → ℕ → At A
  missed : ℕ → At A

-- what a field that ends at e says
unfoldable pub ending : {A : Type 0} → ℕ → Field A → At A
ending e (value v) = found v e
ending e (fault n) = missed n

-- the field of the line s that begins at `at`, and runs to the next space or the line's end
unfoldable pub field_at : {A : Type 0} → (List ℕ → Field A) → List ℕ → ℕ → At A
field_at read s at = ending (at + seek space (drop at s)) (read (field_of (drop at s)))
