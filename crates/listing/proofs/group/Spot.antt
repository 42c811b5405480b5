-- Where a group's line has its day: behind its total and one space. Assumes nothing.
use mathlib.Core.Path.{◌≡◌, refl, sym, ap, ◌∙◌}
use mathlib.Core.Bool.{Bool}
use mathlib.Core.List.{List, [], ◌∷◌}
use Prim.Native.Nat.{ℕ, ◌+◌, ◌≤◌, ◌<◌}
use native.Mathlib.Omega.{arith}
use lib.ListN.{length, drop, length-drop}
use lib.Seq.{drop-drop}
use Rattle.base.specs.Seek.{seek}
use Rattle.base.proofs.Cases.{either}
use Rattle.base.proofs.Seek.{seek-le}
use Rattle.sheet.specs.declared.Sheet.{Sheet}
use Rattle.paper.specs.Read.{Field, value, fault}
use Rattle.paper.specs.Warnings.{past_day, notices}
use Rattle.paper.specs.Days.{read_due, due_warnings}
use Rattle.paper.specs.Amounts.{read_total}
use Rattle.paper.specs.Bytes.{space, field_of, rest_of}
use Rattle.paper.specs.Accounts.{Account, nobody, read_payer}
use Rattle.paper.specs.Entries.{group, Places, total_at, Listed, said, no, counted, on_field, field, gap, line_end}
use Rattle.paper.specs.GroupLine.{total_and_date, read_group}
use Rattle.paper.proofs.Passing.{notices-length, same_parts}

-- what the line w says: n warnings of its day, which begins behind its total and one space
data Spotted (w : List ℕ) : Listed → Type 0 where
  spotted : {payer : Account} {total date at : ℕ} (n : ℕ) → at + seek space (drop at w) < length w
      → Spotted w (said (group payer total date) (notices past_day (at + seek space (drop at w) + 1) n) (total_at at))
  unread : {n off : ℕ} → Spotted w (no n off)

module _ (w : List ℕ) where
  -- s is left of the line from `at` on
  abbrev Left : ℕ → List ℕ → Type 0
  Left at s = (drop at w ≡ s) × (at ≤ length w)

  left-on : (at : ℕ) (s : List ℕ) (n : ℕ) → n ≤ length s → Left at s → Left (at + n) (drop n s)
  left-on at s n h l = (sym (drop-drop n at w) ∙ ap (drop n) l.0, omega (arith, l.1, ap length l.0, length-drop at w))

  on : {X : Type 0} (at : ℕ) (x : Field X) {k : X → Listed} → ((v : X) → Spotted w (k v)) → Spotted w (on_field at x k)
  unfolding on_field
  on at (value v) h = h v
  on at (fault n) h = unread

  fields : {X : Type 0} (read : List ℕ → Field X) (at : ℕ) (s : List ℕ) {k : X → ℕ → List ℕ → Listed} → Left at s
      → ((v : X) (a : ℕ) (r : List ℕ) → a ≡ at + seek space s → Left a r → Spotted w (k v a r)) → Spotted w (field read at s k)
  unfolding field
  fields read at s l h = on at (read (field_of s)) λ v. h v (at + seek space s) (rest_of s) refl (left-on at s (seek space s) (seek-le space s) l)

  gaps : (at : ℕ) (s : List ℕ) {k : ℕ → List ℕ → Listed} → Left at s → ((a : ℕ) (r : List ℕ) → a ≡ at + 1 → Left a r → Spotted w (k a r)) → Spotted w (gap at s k)
  unfolding gap
  gaps at [] l h = unread
  gaps at (x ∷ s) l h = h (at + 1) s refl (left-on at (x ∷ s) 1 (omega arith) l)

  ends : (at : ℕ) (s : List ℕ) {r : Listed} → Spotted w r → Spotted w (line_end at s r)
  unfolding line_end
  ends at [] h = h
  ends at (x ∷ s) h = unread

  module _ (sh : Sheet) (today : ℕ) (here : Bool) where
    total-spotted : (payer : Account) (at : ℕ) → at ≤ length w → Spotted w (total_and_date sh today here payer at (drop at w))
    unfolding total_and_date
    total-spotted payer at l =
        fields (read_total sh.comma) at (drop at w) (refl, l) λ total a1 s1 e1 l1.
        gaps a1 s1 l1 λ a2 s2 e2 l2.
        fields (read_due sh.longdate here sh.early sh.ahead today) a2 s2 l2 λ date a3 s3 _ l3.
        let e : a2 ≡ at + seek space (drop at w) + 1 = omega arith in
        ends a3 s3 (rw e (spotted {at = at} (due_warnings here sh.warnpast today date) (omega (arith, l2.1))))

    group-spotted : 2 ≤ length w → Spotted w (read_group sh today here w)
    unfolding read_group
    group-spotted long =
        either (Spotted w) _
        (λ _. fields (read_payer sh.emptypayer sh.zeropayer sh.joined sh.basemin) 2 (drop 2 w) (refl, long) λ payer a1 s1 _ l1.
        gaps a1 s1 l1 λ a2 s2 _ l2.
        rw (← l2.0) (total-spotted payer a2 l2.1))
        (λ _. total-spotted nobody 2 long)

  -- the line x says this of a group, with its warnings counted
  counted-spot : (x : Listed) → Spotted w x → {payer : Account} {total date n spot : ℕ} → said (group payer total date) n (total_at spot) ≡ counted x
      → (x ≡ said (group payer total date) (notices past_day (spot + seek space (drop spot w) + 1) n) (total_at spot)) × (spot + seek space (drop spot w) < length w)
  unfolding counted
  counted-spot x (spotted {at = at} m before) {n = n} {spot = spot} h =
      let (a, b, c) = same_parts h in
      let d : n ≡ m = b ∙ notices-length past_day _ m in
      let e : spot ≡ at = ap (λ (p : Places). p.total) c in
      (rw (a, d, e), rw e before)
  counted-spot x unread h = absurd (let z : ◌≡◌ {A = ℕ} 0 1 = cc in omega arith)

  pub group-spot : (sh : Sheet) (today : ℕ) (here : Bool) → 2 ≤ length w → {payer : Account} {total date n spot : ℕ}
      → said (group payer total date) n (total_at spot) ≡ counted (read_group sh today here w)
      → (read_group sh today here w ≡ said (group payer total date) (notices past_day (spot + seek space (drop spot w) + 1) n) (total_at spot)) × (spot + seek space (drop spot w) < length w)
  group-spot sh today here long h = counted-spot (read_group sh today here w) (group-spotted sh today here long) h
