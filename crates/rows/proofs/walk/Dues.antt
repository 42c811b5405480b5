-- What may come at each stage, and whether the rows may end there, as the code asks it. Assumes nothing.
use Rattle.std.proofs.Common.{◌≡◌, refl, ◌⊎◌, inl, inr, ℕ, true, false, ltb}
use Rattle.base.specs.Pick.{pick}
use Rattle.paper.specs.Proper.{file_due, group_due, item_due, may_stop}
use Rattle.rows.specs.declared.walk.Stage.{Stage}
use Rattle.rows.specs.declared.walk.Stage.TheVariants.{NeedFile, NeedGroup, NeedItem, Any}
use Rattle.rows.specs.walk.Walks.{stage_of}

module _ (s : Stage) where
  pub a_file-may : (s ≡ NeedFile) ⊎ (s ≡ Any) → (n : ℕ) → ltb n 1000 ≡ pick (file_due (stage_of s)) (ltb n 1000) false
  unfolding file_due pick
  a_file-may (inl e) n = rw e
  a_file-may (inr e) n = rw e

  pub no_file : (s ≡ NeedGroup) ⊎ (s ≡ NeedItem) → (n : ℕ) → false ≡ pick (file_due (stage_of s)) (ltb n 1000) false
  unfolding file_due pick
  no_file (inl e) n = rw e
  no_file (inr e) n = rw e

  pub a_group-may : (s ≡ NeedGroup) ⊎ (s ≡ Any) → true ≡ group_due (stage_of s)
  unfolding group_due
  a_group-may (inl e) = rw e
  a_group-may (inr e) = rw e

  pub an_item-may : (s ≡ NeedItem) ⊎ (s ≡ Any) → (n : ℕ) → ltb n 99999 ≡ pick (item_due (stage_of s)) (ltb n 99999) false
  unfolding item_due pick
  an_item-may (inl e) n = rw e
  an_item-may (inr e) n = rw e

  pub no-item : (s ≡ NeedFile) ⊎ (s ≡ NeedGroup) → (n : ℕ) → false ≡ pick (item_due (stage_of s)) (ltb n 99999) false
  unfolding item_due pick
  no-item (inl e) n = rw e
  no-item (inr e) n = rw e

  pub an-end : s ≡ Any → true ≡ may_stop (stage_of s)
  unfolding may_stop
  an-end e = rw e

pub no-group : (s : Stage) → (s ≡ NeedGroup → ⊥) → (s ≡ Any → ⊥) → false ≡ group_due (stage_of s)
unfolding group_due
no-group NeedFile p q = refl
no-group NeedGroup p q = absurd (p refl)
no-group NeedItem p q = refl
no-group Any p q = absurd (q refl)

pub no-end : (s : Stage) → (s ≡ Any → ⊥) → false ≡ may_stop (stage_of s)
unfolding may_stop
no-end NeedFile q = refl
no-end NeedGroup q = refl
no-end NeedItem q = refl
no-end Any q = absurd (q refl)

pub ruleset dues = (a_file-may, no_file, a_group-may, no-group, an_item-may, no-item, an-end, no-end)
