-- A record that is spelled is read back. Assumes nothing.
use mathlib.Core.Path.{◌≡◌, ap, ◌∙◌}
use mathlib.Core.Bool.{true}
use mathlib.Core.List.{List, []}
use Prim.Native.Nat.{ℕ}
use lib.ListN.{length, drop}
use Rattle.base.specs.Pick.{pick}
use Rattle.base.specs.Seek.{starts}
use Rattle.base.proofs.Seek.{starts-self}
use Rattle.gpc.specs.Records.{Thing, a_head, a_movement, strange, said, crlf, read_record, spell}
use Rattle.gpcback.specs.Proper.{Proper}
use Rattle.gpcback.proofs.Heads.{head-starts, head-end, head-length, head-back}
use Rattle.gpcback.proofs.Movements.{movement-starts, movement-no-head, movement-end, movement-length, movement-back}

pub spell-length : (t : Thing) → Proper t → length (spell t) ≡ 130
unfolding spell
spell-length (a_head h) p = head-length h p
spell-length (a_movement m) p = movement-length m p
spell-length strange p = absurd p

-- a line end where it is due
ended : (s : List ℕ) → drop 128 s ≡ crlf → starts crlf (drop 128 s) ≡ true
ended s e = ap (starts crlf) e ∙ starts-self crlf []

pub back : (t : Thing) → Proper t → read_record (spell t) ≡ said t
unfolding spell said read_record pick
back (a_head h) p = rw (ended _ (head-end h p), head-starts h, head-back h p)
back (a_movement m) p = rw (ended _ (movement-end m p), movement-no-head m, movement-starts m, movement-back m p)
back strange p = absurd p
