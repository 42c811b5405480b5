-- The outcome from a row on: where 20 is the answer, and where it is that of the next row. Assumes nothing.
use mathlib.Core.Path.{◌≡◌, refl, ap, ◌∙◌}
use mathlib.Core.List.{List, ◌∷◌}
use Prim.Native.Nat.{ℕ, suc, ◌+◌}
use native.Mathlib.Numerals.{add-one}
use Rattle.std.proofs.Common.{Err}
use Rattle.sheet.specs.declared.Sheet.{Sheet}
use Rattle.paper.specs.Batch.{Header, Thing, strange}
use Rattle.paper.specs.Proper.{Before, wrong, rows_proper}
use Rattle.paper.specs.Carried.{Place, rows_carried}
use Rattle.roundtrip.specs.flat.Count.{count}
use Rattle.rows.specs.walk.Walks.{before_of}
use Rattle.survey.specs.declared.state.State.{State}
use Rattle.rows.specs.declared.field.Field.TheVariants.{Row}
use Rattle.survey.specs.state.Stands.{kept, improper, survey_of, resume}
use Rattle.survey.specs.state.Goes.{Goes}
use Rattle.survey.specs.state.Row.{place_behind, Behind}

module _ (sh : Sheet) (today : ℕ) (h : Header) (p : Place) (k : ℕ) (st : State) where
  -- 20 is the answer, whatever else there is
  pub resume-wrong : (ts : List Thing) (field : ℕ) → rows_proper k (before_of st.before) ts ≡ wrong k field → improper k field ≡ resume sh today h k p st ts
  unfolding resume survey_of
  resume-wrong ts field e = rw e

  -- the next row's outcome is this one's where 20, 21 and the bytes are
  resume-next : (q : Place) (next : State) (t : Thing) (ts : List Thing)
      → rows_proper (suc k) (before_of next.before) ts ≡ rows_proper k (before_of st.before) (t ∷ ts)
      → kept next.found (rows_carried sh today h (suc k) q ts) ≡ kept st.found (rows_carried sh today h k p (t ∷ ts))
      → next.bytes + count sh (before_of next.before).stage next.before.sum ts ≡ st.bytes + count sh (before_of st.before).stage st.before.sum (t ∷ ts)
      → resume sh today h (k + 1) q next ts ≡ resume sh today h k p st (t ∷ ts)
  unfolding resume
  resume-next q next t ts a b c = rw (add-one k, a, b, c)

  -- so it is where next stands behind the row t
  pub passed_on : (t : Thing) (next : State) → Behind sh today h p k st t next
      → (ts : List Thing) → resume sh today h (k + 1) (place_behind p t) next ts ≡ resume sh today h k p st (t ∷ ts)
  passed_on t next b ts =
      resume-next (place_behind p t) next t ts
      (b.walks.same k ts)
      (b.found.same ts)
      (ap (λ (q : Before). next.bytes + count sh q.stage q.sum ts) b.walks.leads ∙ b.bytes.same ts)

  pub goes-strange : Goes sh today h p k st strange (Err Row)
  unfolding rows_proper
  goes-strange ts = resume-wrong (strange ∷ ts) 0 refl
