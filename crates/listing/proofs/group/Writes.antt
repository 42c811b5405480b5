-- What is put of a group's line: nothing, its total, its day, and one behind the other. Assumes nothing.
use mathlib.Core.Path.{◌≡◌}
use mathlib.Core.Bool.{Bool}
use mathlib.Core.List.{List, [], ◌∷◌, map}
use Prim.Native.Nat.{ℕ, ◌+◌, ◌-◌, ◌≤◌, ◌<◌}
use native.Mathlib.Omega.{arith}
use lib.ListN.{length, drop, length-take, length-drop}
use borrow.Author.Tests.{eq-eqb, ne_eqb}
use Rattle.base.specs.Pick.{pick}
use Rattle.base.specs.Seek.{seek}
use Rattle.paper.specs.Warnings.{past_day, notices}
use Rattle.paper.specs.Bytes.{space, field_of}
use Rattle.paper.specs.Entries.{group, total_at, said, on_group, on_entry}
use Rattle.paper.specs.GroupLine.{read_group}
use Rattle.paper.proofs.Passing.{counted-no}
use Rattle.numeral.specs.counted.Counted.{Counted}
use Rattle.numeral.proofs.counted.Laws.{counted-nothing, ◌counted-then◌}
use Rattle.numeral.proofs.field.Front.{field-long}
use Rattle.std.proofs.Common.{Result, Ok, Err}
use Rattle.refusal.specs.declared.Flaw.{Flaw}
use Rattle.refusal.specs.Numbers.{number_of}
use Rattle.groupline.specs.declared.GroupLine.{GroupLine}
use Rattle.groupline.specs.Told.{Tells, Low}
use Rattle.why.specs.declared.Finding.{Finding}
use Rattle.why.specs.Names.{field_number}
use Rattle.why.specs.Warned.{on_listed, warned, noticed, differing}
use Rattle.listing.specs.declared.Telling.{Telling}
use Rattle.listing.specs.Listed.{spelled, listed}
use Rattle.listing.specs.group.Warned.{group_warned, cut, line_in, at_field}
use Rattle.listing.proofs.Putting.{listed-append, listed-one}
use Rattle.listing.proofs.group.Spot.{group-spot}

-- ---- one field

-- how many bytes a field has
pub field_found : (k start off why field a z : ℕ) (f : List ℕ) (stop end : ℕ) → end ≡ off + seek space (drop off (cut f start stop))
    → ◌≡◌ {A = Finding} (record { number = 0; cause = why; line = k; byte = start + off; length = end - off; field = field; least = a; most = z }) (at_field k (line_in f start stop) off why field a z)
unfolding at_field
field_found k start off why field a z f stop end e =
    let n : end - off ≡ length (field_of (drop off (cut f start stop))) = omega (arith, field-long (drop off (cut f start stop))) in
    rw n

-- a place in the bytes from `start` to `stop` is in the line
module _ (f : List ℕ) (start stop : ℕ) (p : start ≤ stop) (q : stop ≤ length f) where
  cut-long : length (cut f start stop) ≡ stop - start
  cut-long = omega (arith, length-take (stop - start) (drop start f), length-drop start f)

  pub off-within : (off : ℕ) → start + off ≤ stop → off ≤ length (cut f start stop)
  off-within off h = omega (arith, cut-long)

  pub spot-within : (off : ℕ) → off < length (cut f start stop) → start + off < stop
  spot-within off h = omega (arith, cut-long)

-- ---- what is put

module _ (t : Telling) (f : List ℕ) {o : List ℕ} {at : ℕ} where
  pub put-none : Counted o at (listed t f []) o at
  unfolding listed
  put-none = counted-nothing

  module _ {o1 : List ℕ} {d : ℕ} where
    put_one : (x : Finding) → Counted o at (spelled t f x) o1 d → Counted o at (listed t f (x ∷ [])) o1 d
    put_one x w = rw (listed-one t f x) w

    module _ (k start stop off : ℕ) (x : Finding) where
      pub put-differing : (total exact : ℕ) → (total ≡ exact → ⊥) → x ≡ at_field k (line_in f start stop) off 1010 21 exact exact → Counted o at (spelled t f x) o1 d
          → Counted o at (listed t f (differing k (line_in f start stop) off total exact)) o1 d
      unfolding differing at_field field_number pick
      put-differing total exact n e w = rw (ne_eqb total exact n, ← e) (put_one x w)

      pub put-day : (end warnings : ℕ) → end ≡ off + seek space (drop off (cut f start stop)) → (warnings ≡ 0 → ⊥) → warnings ≤ 1
          → x ≡ at_field k (line_in f start stop) (end + 1) 1011 22 t.today 0 → Counted o at (spelled t f x) o1 d
          → Counted o at (listed t f (map (noticed t.sheet t.today k (line_in f start stop) (total_at off)) (notices past_day (off + seek space (drop off (cut f start stop)) + 1) warnings))) o1 d
      unfolding notices warned at_field field_number
      put-day end warnings g n l e w =
          let one : warnings ≡ 1 = omega arith in
          rw (one, ← g, ← e) (put_one x w)

  pub put_same : (k start stop off total exact : ℕ) → total ≡ exact → Counted o at (listed t f (differing k (line_in f start stop) off total exact)) o at
  unfolding differing pick
  put_same k start stop off total exact e = rw (eq-eqb total exact e) put-none

  pub put-today : (k start stop off warnings : ℕ) → warnings ≡ 0
      → Counted o at (listed t f (map (noticed t.sheet t.today k (line_in f start stop) (total_at off)) (notices past_day (off + seek space (drop off (cut f start stop)) + 1) warnings))) o at
  unfolding notices
  put-today k start stop off warnings e = rw e put-none

-- ---- the line: r is what its reader answered

pub line-once : (r : Result GroupLine Flaw) → Low r → (g : GroupLine) → r ≡ Ok g → g.warnings ≤ 1
line-once r low g e = (rw e at low).1

module _ (t : Telling) (f : List ℕ) (start stop : ℕ) (here : Bool) (r : Result GroupLine Flaw) (tells : Tells (read_group t.sheet t.today here (cut f start stop)) r) where
  pub line_refused : (x : Flaw) → r ≡ Err x → {o : List ℕ} {at : ℕ} (k exact : ℕ) → Counted o at (listed t f (group_warned t.sheet t.today k (line_in f start stop) here exact)) o at
  unfolding group_warned on_listed
  line_refused x e k exact =
      let z = counted-no (read_group t.sheet t.today here (cut f start stop)) (number_of x.0) x.1 (rw e at tells.says) in
      rw (← z) (put-none t f)

  module _ (long : 2 ≤ length (cut f start stop)) (g : GroupLine) (e : r ≡ Ok g) where
    abbrev w : List ℕ
    w = cut f start stop

    says : (read_group t.sheet t.today here w ≡ said (group tells.payer g.total g.date) (notices past_day (g.spot + seek space (drop g.spot w) + 1) g.warnings) (total_at g.spot))
        × (g.spot + seek space (drop g.spot w) < length w)
    says = group-spot w t.sheet t.today here long (rw e at tells.says)

    module _ (p : start ≤ stop) (q : stop ≤ length f) where
      pub line-day : start + (g.spot + seek space (drop g.spot (cut f start stop))) < stop
      line-day = spot-within f start stop p q (g.spot + seek space (drop g.spot w)) says.1

      pub line-total : start + g.spot ≤ stop
      line-total = omega (arith, line-day)

    pub line-put : {o o1 o2 : List ℕ} {at d h : ℕ} (k exact : ℕ) → Counted o at (listed t f (differing k (line_in f start stop) g.spot g.total exact)) o1 d
        → Counted o1 d (listed t f (map (noticed t.sheet t.today k (line_in f start stop) (total_at g.spot)) (notices past_day (g.spot + seek space (drop g.spot w) + 1) g.warnings))) o2 h
        → Counted o at (listed t f (group_warned t.sheet t.today k (line_in f start stop) here exact)) o2 h
    unfolding group_warned on_listed on_group on_entry
    line-put k exact a b = rw (says.0, listed-append t f) (a counted-then b)

pub ruleset fields = (field_found, off-within)

pub ruleset writes = (put_same, put-differing, put-today, put-day)

pub ruleset lines = (line-once, line-day, line-total)
