-- `word_at` meets its contract: the bytes from the highest down make the word. Assumes nothing.
use Prim.Native.Nat.{◌+◌, ◌-◌, ◌^◌, ◌<◌}
use mathlib.Core.Path.{◌≡◌, refl}
use native.Mathlib.Nat.{add-zero}
use lib.ListN.{get_or}
use native.Mathlib.Omega.{arith}
use Rattle.paper.specs.Words.{word_of}
use Rattle.out.proofs.word.Load.{load-room, load-more}
use Rattle.out.proofs.word.word_at.Goals as goal
use Rattle.out.proofs.word.word_at.Goals.{After-shared_slice_known-1}

-- the byte that a turn reads
byte : (c : After-shared_slice_known-1) → get_or c.args.rows.now (c.args.at + (c.loop-k.k - 1)) 0 < 256
byte c = omega (arith, c.type_inv.rows (c.args.at + (c.loop-k.k - 1)))

-- room for it below what has been read
room : (c : After-shared_slice_known-1) → c.loop-k.w < 256 ^ 7
room c = load-room _ _ c.loop-k-test.true c.loop-k.invariant.0 c.loop-k.invariant.1

pub loop-k-init : goal.loop-k-init
unfolding word_of
loop-k-init c = (omega arith, omega arith, refl)

pub overflow_cast-w : goal.overflow_cast-w
overflow_cast-w c = omega (arith, byte c)

pub overflow_mul-w : goal.overflow_mul-w
overflow_mul-w c = omega (arith, room c)

pub overflow_add-w-in-loop-k : goal.overflow_add-w-in-loop-k
overflow_add-w-in-loop-k c = omega (arith, byte c, room c)

pub loop-k-preserved : goal.loop-k-preserved
loop-k-preserved c = load-more _ _ _ _ c.loop-k-test.true c.requires c.loop-k.invariant (byte c)

pub returns : goal.returns
returns c = let e : c.loop-k.k ≡ 0 = omega arith in rw (e, add-zero) at c.loop-k.invariant.2
