-- Where records break a rule behind statements whose sums agree, the judge stops with that refusal. Assumes nothing.
use mathlib.Core.Path.{◌≡◌, refl, ap, ◌∙◌}
use mathlib.Core.List.{List, [], ◌∷◌, ◌++◌, append_assoc}
use Prim.Native.Nat.{ℕ, suc, ◌+◌}
use native.Mathlib.Nat.{zero-add}
use native.Mathlib.Omega.{arith}
use lib.ListN.{length, length-append}
use Rattle.paper.specs.Entries.{Said, got}
use Rattle.gpc.specs.Records.{Head, Movement, a_head, Record, head_is, said, saids}
use Rattle.gpc.specs.Statements.{Statement, movement_things, things, Spots, refused, on_said, with, within, judge_on, judge}
use Rattle.gpc.specs.Spelled.{AllAgree}
use Rattle.gpc.specs.FirstFault.{Open, none, begun, open_things, ends, goes, Broken, missing, strange, early, movement, sums, head, FirstFault}
use Rattle.gpcexact.proofs.Things.{saids-append, movements-length, so_far}
use Rattle.gpcexact.proofs.Closing.{agrees-closed}
use Rattle.gpcexact.proofs.Runs.{withs, withs-refused, behind, over-movements, over-statements}

module _ (p : Spots) where
  -- ---- the records before the fault

  -- statements that are done are behind the judge
  begins : (done : List Statement) (x : Said Head) (rs : List Record)
      → judge p (saids (things done) ++ (head_is x ∷ rs)) ≡ behind p 0 (saids (things done) ++ (head_is x ∷ rs))
  unfolding judge behind saids said things
  begins [] x rs = refl
  begins (s ∷ done) x rs = refl

  -- .. and so is one that is open
  reaches : (done : List Statement) (h : Head) (ms : List Movement) (after : List Record) → AllAgree done
      → judge p (saids (so_far done h ms) ++ after)
      ≡ withs done (judge_on p (length (so_far done h ms)) (within (length (things done)) h ms) after)
  unfolding judge_on on_said behind saids said open_things
  reaches done h ms after a =
      let rest : List Record = saids (movement_things ms []) ++ after in
      let e : suc (length (things done)) + length ms ≡ length (so_far done h ms)
      = omega (arith, length-append (things done) (a_head h ∷ movement_things ms []), movements-length ms []) in
      rw (saids-append (things done) (a_head h ∷ movement_things ms []), append_assoc (saids (things done)) (saids (a_head h ∷ movement_things ms [])) after)
      (begins done (got h) rest
      ∙ (rw (zero-add (length (things done))) at (over-statements p done (head_is (got h) ∷ rest) 0 a goes))
      ∙ ap (withs done) (rw e at (over-movements p ms [] after (suc (length (things done))) (length (things done)) h [])))

  -- ---- the fault

  -- before the first head
  stops-top : {after : List Record} {n k off : ℕ} → Broken p 0 0 none after n k off → judge p after ≡ refused n k off
  unfolding judge judge_on on_said
  stops-top missing = refl
  stops-top strange = refl
  stops-top early = refl
  stops-top (head _) = refl

  -- within a statement
  stops-within : {j m : ℕ} {h : Head} {ms : List Movement} {after : List Record} {n k off : ℕ} → Broken p j m (begun h ms) after n k off
      → judge_on p m (within j h ms) after ≡ refused n k off
  unfolding judge_on on_said with
  stops-within strange = refl
  stops-within movement = refl
  stops-within (sums ends e) = rw e
  stops-within (sums goes e) = rw e
  stops-within {h = h} {ms = ms} (head a) = rw (agrees-closed p h ms a)

  module _ (n k off : ℕ) where
    stops_at : (done : List Statement) (o : Open) (after : List Record) → AllAgree done → (o ≡ none → done ≡ [])
        → Broken p (length (things done)) (length (things done ++ open_things o)) o after n k off
        → judge p (saids (things done ++ open_things o) ++ after) ≡ refused n k off
    unfolding saids things open_things
    stops_at [] none after a t b = stops-top b
    stops_at (s ∷ done) none after a t b = let f = t refl in let z : ◌≡◌ {A = ℕ} 0 1 = cc in absurd (omega arith)
    stops_at done (begun h ms) after a t b =
        reaches done h ms after a ∙ ap (withs done) (stops-within b) ∙ withs-refused done n k off

    pub stops : (rs : List Record) → FirstFault p rs n k off → judge p rs ≡ refused n k off
    stops rs o = rw o.split (stops_at o.done o.last o.after o.lawful o.first o.broken)
