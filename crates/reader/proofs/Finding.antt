-- What stands at a place of a file: a line that is cut off there, or nothing behind its end. Assumes nothing.
use Rattle.std.proofs.Common.{Some, None}
use mathlib.Core.Path.{◌≡◌, refl}
use mathlib.Core.List.{List}
use Prim.Native.Nat.{ℕ, ◌+◌, ◌-◌, ◌≤◌}
use native.Mathlib.Omega.{arith}
use lib.ListN.{length}
use Rattle.scan.specs.declared.line.Cut.{Cut}
use Rattle.scan.specs.line.Cutting.{Cuts}
use Rattle.scan.proofs.line.Lines.{at-end}
use Rattle.reader.specs.Finding.{Finds}

pub finds-line : (f : List ℕ) (at : ℕ) (r : Cut) → Cuts f at r → Finds f at (Some (record { start = at; len = r.stop - at; next = r.next }))
finds-line f at r c = let e : at + (r.stop - at) ≡ r.stop = let from = c.from in omega arith in (refl, rw e c)

pub finds-none : (f : List ℕ) (at : ℕ) → length f ≤ at → Finds f at None
finds-none f at h = at-end f at h
