-- What the judge's answer tells of the records: the statements that they say, or the first rule that they break. Assumes nothing.
use mathlib.Core.Path.{◌≡◌, refl, ◌∙◌}
use mathlib.Core.List.{List, [], ◌∷◌, ◌++◌, append-nil}
use Prim.Native.Nat.{ℕ, suc}
use native.Mathlib.Omega.{arith}
use lib.ListN.{length, length-append}
use Rattle.paper.specs.Entries.{Said, got, no}
use Rattle.gpc.specs.Records.{Head, Movement, a_head, a_movement, Record, head_is, movement_is, no_record, said, saids}
use Rattle.gpc.specs.Statements.{Statement, statement, movement_things, things, Agrees, Spots, closed, Judged, accepted, refused, on_said, with, within, judge_on, judge}
use Rattle.gpc.specs.Spelled.{AllAgree, Say}
use Rattle.gpc.specs.FirstFault.{none, begun, open_things, ends, goes, Broken, missing, strange, early, movement, sums, head, FirstFault}
use Rattle.gpcexact.proofs.Things.{saids-more, so_far, things-more, sofar-movement, sofar-head, count-movement, count_head}
use Rattle.gpcexact.proofs.Closing.{Closed, agree, differ, closing}
use Rattle.gpcexact.proofs.Runs.{withs, withs-accepted, withs-refused, withs-more}

pub data Told (p : Spots) (all : List Record) : Judged → Type 0 where
  says : {ss : List Statement} → Say all ss → Told p all (accepted ss)
  breaks : {n k off : ℕ} → FirstFault p all n k off → Told p all (refused n k off)

-- statements that agree, and one more
agree-more : (done : List Statement) (s : Statement) → AllAgree done → Agrees s → AllAgree (done ++ (s ∷ []))
agree-more [] s a b = (b, tt)
agree-more (t ∷ done) s (c, a) b = (c, agree-more done s a b)

-- ---- within a statement

module _ (p : Spots) (all : List Record) where
  -- with these statements done, and one that has this head and these movements so far
  abbrev Tells : List Statement → Head → List Movement → List Record → Type 0
  Tells done h ms rs =
      AllAgree done → all ≡ saids (so_far done h ms) ++ rs
      → Told p all (withs done (judge_on p (length (so_far done h ms)) (within (length (things done)) h ms) rs))

  module _ (done : List Statement) (h : Head) (ms : List Movement) (a : AllAgree done) where
    breaks-at : (after : List Record) {n k off : ℕ}
        → all ≡ saids (so_far done h ms) ++ after
        → Broken p (length (things done)) (length (so_far done h ms)) (begun h ms) after n k off
        → Told p all (withs done (refused n k off))
    breaks-at after {n} {k} {off} split b =
        rw (withs-refused done n k off)
        (breaks (record {
          done = done;
          last = begun h ms;
          after = after;
          split = split;
          lawful = a;
          first = λ e. let z : ◌≡◌ {A = ℕ} 0 1 = cc in absurd (omega arith);
          broken = b;
        }))

    -- no record follows
    tells-end : (x : Said Statement) → all ≡ saids (so_far done h ms) ++ [] → Closed p h ms x → closed p h ms ≡ x
        → Told p all (withs done (on_said (length (things done)) x λ s. accepted (s ∷ [])))
    unfolding on_said
    tells-end x split (agree b) e =
        rw (withs-accepted done (statement h ms ∷ []))
        (says {ss = done ++ (statement h ms ∷ [])} (record {
          read = split ∙ append-nil (saids (so_far done h ms)) ∙ rw (things-more done h ms);
          some = omega (arith, length-append done (statement h ms ∷ []));
          sums = agree-more done (statement h ms) a b;
        }))
    tells-end x split (differ _) e = breaks-at [] split (sums ends e)

    -- a head follows
    tells-head : (x : Said Statement) (y : Said Head) (rs : List Record)
        → all ≡ saids (so_far done h ms) ++ (head_is y ∷ rs) → Closed p h ms x → closed p h ms ≡ x
        → ((g : Head) → Tells (done ++ (statement h ms ∷ [])) g [] rs)
        → Told p all (withs done (on_said (length (things done)) x λ s.
        with s (on_said (length (so_far done h ms)) y λ g. judge_on p (suc (length (so_far done h ms))) (within (length (so_far done h ms)) g []) rs)))
    unfolding on_said with said
    tells-head x (got g) rs split (agree b) e later =
        rw (count_head done h g ms, things-more done h ms, withs-more) at
        (later g (agree-more done (statement h ms) a b) (split ∙ saids-more (so_far done h ms) (a_head g) rs ∙ rw (sofar-head done h g ms)))
    tells-head x (no n off) rs split (agree b) e later = breaks-at (head_is (no n off) ∷ rs) split (head b)
    tells-head x y rs split (differ _) e later = breaks-at (head_is y ∷ rs) split (sums goes e)

    -- a movement follows
    tells-movement : (x : Said Movement) (rs : List Record) → all ≡ saids (so_far done h ms) ++ (movement_is x ∷ rs)
        → ((m : Movement) → Tells done h (ms ++ (m ∷ [])) rs)
        → Told p all (withs done (on_said (length (so_far done h ms)) x λ m.
        judge_on p (suc (length (so_far done h ms))) (within (length (things done)) h (ms ++ (m ∷ []))) rs))
    unfolding on_said said
    tells-movement (got m) rs split later =
        rw (count-movement done h ms m) at
        (later m a (split ∙ saids-more (so_far done h ms) (a_movement m) rs ∙ rw (sofar-movement done h ms m)))
    tells-movement (no n off) rs split later = breaks-at (movement_is (no n off) ∷ rs) split movement

  tells : (rs : List Record) (done : List Statement) (h : Head) (ms : List Movement) → Tells done h ms rs
  unfolding judge_on
  tells [] done h ms a split = tells-end done h ms a (closed p h ms) split (closing p h ms) refl
  tells (no_record ∷ rs) done h ms a split = breaks-at done h ms a (no_record ∷ rs) split strange
  tells (movement_is x ∷ rs) done h ms a split = tells-movement done h ms a x rs split (λ m. tells rs done h (ms ++ (m ∷ [])))
  tells (head_is x ∷ rs) done h ms a split =
      tells-head done h ms a (closed p h ms) x rs split (closing p h ms) refl (λ g. tells rs (done ++ (statement h ms ∷ [])) g [])

-- ---- before the first head

module _ (p : Spots) where
  at-top : (after : List Record) {n k off : ℕ} → Broken p 0 0 none after n k off → Told p after (refused n k off)
  unfolding saids things open_things
  at-top after b = breaks (record { done = []; last = none; after = after; split = refl; lawful = tt; first = λ _. refl; broken = b })

  -- every answer tells one or the other
  pub told : (rs : List Record) → Told p rs (judge p rs)
  unfolding judge judge_on on_said withs saids said things movement_things open_things
  told [] = at-top [] missing
  told (no_record ∷ rs) = at-top (no_record ∷ rs) strange
  told (movement_is x ∷ rs) = at-top (movement_is x ∷ rs) early
  told (head_is (no n off) ∷ rs) = at-top (head_is (no n off) ∷ rs) (head tt)
  told (head_is (got h) ∷ rs) = tells p (head_is (got h) ∷ rs) rs [] h [] tt refl
