-- A text made of parts that are written one behind another: where there is room for the text, there is for each part. Assumes nothing.
use mathlib.Core.Path.{◌≡◌, ap}
use mathlib.Core.List.{List, ◌++◌}
use Prim.Native.Nat.{ℕ, ◌+◌, ◌≤◌}
use native.Mathlib.Omega.{arith}
use lib.ListN.{length, length-append}
use Rattle.base.specs.Put.{Wrote}
use Rattle.out.proofs.put.Room.{wrote-length}

-- the text t fits in o at `at`
pub record Fits (o : List ℕ) (at : ℕ) (t : List ℕ) : Type 0 where
  pub room : at + length t ≤ length o

-- a text, told by its parts
pub whole : {o t s : List ℕ} {at : ℕ} → t ≡ s → at + length t ≤ length o → Fits o at s
whole {o} {t} {s} {at} e h = record { room = omega (arith, ap length e) }

-- its first part
pub part : {o : List ℕ} {at : ℕ} (x r : List ℕ) → Fits o at (x ++ r) → Fits o at x
part x r f = record { room = omega (arith, f.room, length-append x r) }

-- what is left behind a part that was written
pub rest : {o o1 x r : List ℕ} {at p : ℕ} → Wrote o at x o1 p → Fits o at (x ++ r) → Fits o1 p r
rest {o} {o1} {x} {r} {at} {p} w f = record { room = omega (arith, f.room, w.next, wrote-length w, length-append x r) }

-- a part of i bytes
pub sized : {o x : List ℕ} {at i : ℕ} → length x ≡ i → Fits o at x → at + i ≤ length o
sized e f = omega (arith, f.room)

-- a text written as its parts are
pub wrote_as : {o o1 t s : List ℕ} {at p : ℕ} → t ≡ s → Wrote o at s o1 p → Wrote o at t o1 p
wrote_as e w = rw e w
