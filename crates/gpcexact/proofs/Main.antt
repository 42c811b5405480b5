-- Which records are accepted, wherever a head has the fields that sums are refused at. Assumes nothing.
use mathlib.Core.Path.{◌≡◌, ◌∙◌}
use mathlib.Core.List.{List, [], ◌∷◌, append-nil}
use mathlib.Core.Logic.{◌↔◌}
use Prim.Native.Nat.{◌≤◌}
use native.Mathlib.Omega.{arith}
use lib.ListN.{length}
use Rattle.gpc.specs.Records.{Record, said, saids}
use Rattle.gpc.specs.Statements.{Statement, things, Spots, accepted, judge}
use Rattle.gpc.specs.Spelled.{AllAgree, Say}
use Rattle.gpc.specs.FirstFault.{ends}
use Rattle.gpcexact.proofs.Things.{saids-length}
use Rattle.gpcexact.proofs.Runs.{behind, withs-accepted, over-statements}
use Rattle.gpcexact.proofs.Told.{Told, says, told}

said-by : {p : Spots} {rs : List Record} {ss : List Statement} → Told p rs (accepted ss) → Say rs ss
said-by (says s) = s

-- statements whose sums agree are accepted as they are
taken : (p : Spots) (ss : List Statement) → 1 ≤ length ss → AllAgree ss → judge p (saids (things ss)) ≡ accepted ss
unfolding judge behind saids said things
taken p [] some a = absurd (omega arith)
taken p (s ∷ ss) some a =
    (rw (append-nil (saids (things (s ∷ ss)))) at (over-statements p (s ∷ ss) [] 0 a ends))
    ∙ withs-accepted (s ∷ ss) []
    ∙ rw (append-nil ss)

-- Records are accepted as statements exactly when they say them,
pub exact : (p : Spots) (rs : List Record) (ss : List Statement) → judge p rs ≡ accepted ss ↔ Say rs ss
exact p rs ss = (λ e. said-by (rw e at (told p rs)), λ s. rw s.read (taken p ss s.some s.sums))

-- and they say no others.
pub unambiguous : (rs : List Record) (ss ss' : List Statement) → Say rs ss → Say rs ss' → ss ≡ ss'
unambiguous rs ss ss' s t =
    let p : Spots = record { new = 0; debit = 0; credit = 0 } in
    let e = (exact p rs ss).1 s in
    let f = (exact p rs ss').1 t in
    cc

-- and there is a record for each head and each movement.
pub counted : (p : Spots) (rs : List Record) (ss : List Statement) → judge p rs ≡ accepted ss → length rs ≡ length (things ss)
counted p rs ss e = rw ((exact p rs ss).0 e).read (saids-length (things ss))
