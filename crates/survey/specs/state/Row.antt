-- One row by itself: what it does to 21 and to the bytes, whatever rows follow; and the state behind it. Assumes nothing.
use Rattle.std.specs.Prelude.{ℕ, suc, ◌+◌, ◌≡◌, List, ◌∷◌, Option, Ok}
use Rattle.sheet.specs.declared.Sheet.{Sheet}
use Rattle.paper.specs.Batch.{Header, Thing, a_file, a_group, an_item, misnumbered, strange}
use Rattle.paper.specs.Carried.{Place, behind_file, behind_group, behind_item, rows_carried}
use Rattle.roundtrip.specs.flat.Count.{count}
use Rattle.rows.specs.walk.Walks.{before_of, behind, Walks}
use Rattle.survey.specs.declared.state.Found.{Found}
use Rattle.survey.specs.declared.state.State.{State}
use Rattle.survey.specs.state.Stands.{kept}

-- where the rows behind a row stand
abbrev pub place_behind : Place → Thing → Place
place_behind p (a_file kind number) = behind_file p kind number
place_behind p (a_group date payer) = behind_group p date
place_behind p (an_item x) = behind_item p
place_behind p (misnumbered x) = p
place_behind p strange = p

-- ---- the row t, before which st stands

-- 21: f is what was found once row k, which is t and stands at p, is tested besides
pub record Finds (sh : Sheet) (today : ℕ) (h : Header) (p : Place) (k : ℕ) (st : State) (t : Thing) (f : Option Found) : Type 0 where
  pub same : (ts : List Thing) → kept f (rows_carried sh today h (suc k) (place_behind p t) ts) ≡ kept st.found (rows_carried sh today h k p (t ∷ ts))

-- n are the bytes so far, with those of its line and of what it closes
pub record Adds (sh : Sheet) (st : State) (t : Thing) (n : ℕ) : Type 0 where
  pub same : (ts : List Thing) → n + count sh (behind (before_of st.before) t).stage (behind (before_of st.before) t).sum ts ≡ st.bytes + count sh (before_of st.before).stage st.before.sum (t ∷ ts)

-- next is the state behind it, which by 20 it leads to
pub record Behind (sh : Sheet) (today : ℕ) (h : Header) (p : Place) (k : ℕ) (st : State) (t : Thing) (next : State) : Type 0 where
  pub walks : Walks st.before t (Ok next.before)
  pub found : Finds sh today h p k st t next.found
  pub bytes : Adds sh st t next.bytes
