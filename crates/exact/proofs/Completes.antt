-- What is left of a file completes a state to a header, a batch and a count of warnings; and how one line changes what is left. The rules
-- in it speak of what is to come, next to what the state has counted. Assumes nothing.
use mathlib.Core.Path.{◌≡◌, refl}
use mathlib.Core.Bool.{true}
use mathlib.Core.List.{List, [], ◌∷◌}
use Prim.Native.Nat.{ℕ, suc, ◌+◌, ◌≤◌, max}
use native.Mathlib.Omega.{arith}
use lib.ListN.{length}
use Rattle.sheet.specs.declared.Sheet.{Sheet}
use Rattle.paper.specs.Batch.{Item, Group, AccountFile, Batch, Header, sum, most14}
use Rattle.paper.specs.Lines.{Line}
use Rattle.paper.specs.FileLine.{series}
use Rattle.paper.specs.Spells.{item_dues, group_dues, file_dues, dues, differs, Each, group_items, file_items, GroupRules, FileRules, Rules}
use Rattle.paper.specs.Judge.{Refused, Accepted, rev_on, State, at_first, at_file, at_group, at_item, stop, seen, context_of, items_of, group_of, file_of, step}
use Rattle.paper.proofs.Lists.{length-rev, items-rev, null-some, some-null}
use Rattle.exact.proofs.Moves.{Moves, heads, opens, begins, more, closes, finishes, moves-step, stays_step}
use Rattle.exact.proofs.Counts.{room, has_room, taken, takes}

pub refused : {n l p w : ℕ} {h : Header} {b : Batch} {A : Type 0} → Refused n l p ≡ Accepted h b w → A
refused e = let z : ◌≡◌ {A = ℕ} 0 1 = cc in absurd (omega arith)

module _ (sh : Sheet) (today : ℕ) (h : Header) (b : Batch) (w : ℕ) where
  -- mf, mg and mx are the account files, the groups of the open account file and the items of the open group that are to come, m the warnings
  abbrev pub Completes : List Line → State → Type 0
  Completes ts at_first = Each sh today ts (dues h b) w × Rules sh b
  Completes ts (at_file x) =
      (mf : List AccountFile) × (m : ℕ) × (h ≡ x.header) × (b ≡ rev_on x.files mf) × (w ≡ x.warnings + m)
      × Each sh today ts (file_dues x.header (seen x.files) mf) m
      × (1 ≤ length x.files + length mf)
      × (length x.files + length mf ≤ max (length x.files) 1000)
      × (file_items x.files + file_items mf ≤ max (file_items x.files) sh.fileitems) × FileRules mf
  Completes ts (at_group x) =
      (mg : List Group) × (mf : List AccountFile) × (m : ℕ) × (h ≡ x.header)
      × (b ≡ rev_on x.files (file_of x.opening (rev_on x.groups mg) ∷ mf)) × (w ≡ x.warnings + m)
      × Each sh today ts (group_dues x.opening.kind mg (file_dues x.header (series x.opening.number ∷ seen x.files) mf)) m
      × (1 ≤ length x.groups + length mg) × (group_items x.groups + group_items mg ≤ max (group_items x.groups) 99999) × GroupRules mg
      × (suc (length x.files) + length mf ≤ max (suc (length x.files)) 1000)
      × (group_items x.groups + file_items x.files + (group_items mg + file_items mf) ≤ max (group_items x.groups + file_items x.files) sh.fileitems)
      × FileRules mf
  Completes ts (at_item x) =
      (mx : List Item) × (mg : List Group) × (mf : List AccountFile) × (m : ℕ) × (h ≡ x.header)
      × (b ≡ rev_on x.files (file_of x.opening (rev_on x.groups (group_of x.head (rev_on x.items mx) ∷ mg)) ∷ mf))
      × (w ≡ x.warnings + differs x.head.total (sum (rev_on x.items mx)) + m)
      × Each sh today ts
      (item_dues (context_of (at_item x)) mx
      (group_dues x.opening.kind mg (file_dues x.header (series x.opening.number ∷ seen x.files) mf))) m
      × (1 ≤ length x.items + length mx) × (sum (rev_on x.items mx) ≤ most14)
      × (sh.strict ≡ true → x.head.total ≡ sum (rev_on x.items mx))
      × (length x.items + group_items x.groups + (length mx + group_items mg) ≤ max (length x.items + group_items x.groups) 99999)
      × GroupRules mg
      × (suc (length x.files) + length mf ≤ max (suc (length x.files)) 1000)
      × (length x.items + group_items x.groups + file_items x.files + (length mx + group_items mg + file_items mf)
      ≤ max (length x.items + group_items x.groups + file_items x.files) sh.fileitems)
      × FileRules mf
  Completes ts (stop a) = a ≡ Accepted h b w

  module _ (k : ℕ) (t : Line) (ts : List Line) where
    -- what completes the state after a line completes with that line the state before it
    pub back : {st new : State} → Moves sh today k t st new → Completes ts new → Completes (t ∷ ts) st
    unfolding dues file_dues group_dues item_dues context_of seen group_items file_items
    back (heads {v = v} q) (mf, m, eh, e, i, o, some, few, less, r) =
        rw (eh, e) ((v, m, q, o, i), (omega arith, omega arith, omega arith, r))
    back (opens {kind = a} {number = n} {v = v} free q) (mg, mf, m, eh, e, i, o, some, items, g, few, less, r) =
        (record { kind = a; number = n; groups = mg } ∷ mf, v + m, eh, e, omega arith, (v, m, q, o, refl), omega arith, omega arith, omega arith, (omega arith, omega arith, g, r))
    back (begins {payer = payer} {total = total} {date = date} {v = v} q) (mx, mg, mf, m, eh, e, i, o, some, small, same, items, g, few, less, r) = (
      record { date = date; payer = payer; items = mx } ∷ mg,
      mf,
      v + differs total (sum mx) + m,
      eh,
      e,
      omega arith,
      (v + differs total (sum mx), m, (total, v, (_, q), same, refl), o, refl),
      omega arith,
      omega arith,
      (omega arith, small, g),
      few,
      omega arith,
      r,
    )
    back (more {x = x} {v = v} {i = j} free q) (mx, mg, mf, m, eh, e, i, o, some, small, same, items, g, few, less, r) =
        let (a, z) = room sh x free in
        (j ∷ mx, mg, mf, v + m, eh, e, omega arith, (v, m, q, o, refl), omega arith, small, same, omega arith, g, few, omega arith, r)
    back (closes {x = x} {v = v} some q good) (mg, mf, m, eh, e, i, o, _, items, g, few, less, r) =
        let (small, same) = taken sh.strict x.head.total (sum (items_of x)) good in
        ([], mg, mf, v + m, eh, e, omega arith, (v, m, q, o, refl), omega (arith, null-some x.items some), small, same, omega (arith, length-rev x.items []), g, few, omega (arith, length-rev x.items []), r)
    back (finishes {x = x} {v = v} some q) (mf, m, eh, e, i, o, _, few, less, r) =
        ([], mf, v + m, eh, e, omega arith, (v, m, q, o, refl), omega (arith, null-some x.groups some), omega arith, tt, omega arith, omega (arith, items-rev x.groups []), r)

    along : (st : State) {new : State} → Moves sh today k t st new → Completes ts new → Completes ts (step sh today k t st)
    along st m c = rw (moves-step sh today k t m) c

    -- what completes a state begins with a line that moves it on, and the rest completes what comes of it
    pub forth : (st : State) → Completes (t ∷ ts) st → Completes ts (step sh today k t st)
    unfolding dues file_dues group_dues item_dues context_of seen group_items file_items
    forth at_first ((v, m, q, o, i), (some, few, less, r)) =
        along at_first (heads q) (b, m, refl, refl, i, o, omega arith, omega arith, omega arith, r)
    forth (at_file x) ([], m, eh, e, i, o, some, few, less, r) = absurd o
    forth (at_file x) (f ∷ mf, m, eh, e, i, (v, m2, q, o, j), _, few, less, (some, items, g, r)) =
        along (at_file x) (opens (omega arith) q)
        (f.groups, mf, m2, eh, e, omega arith, o, omega arith, omega arith, g, omega arith, omega arith, r)
    forth (at_group x) ([], mf, m, eh, e, i, (v, m2, q, o, j), some, items, g, few, less, r) =
        along (at_group x) (finishes (some-null x.groups (omega arith)) q)
        (mf, m2, eh, e, omega arith, o, omega arith, omega arith, omega (arith, items-rev x.groups []), r)
    forth (at_group x) (y ∷ mg, mf, m, eh, e, i, (v, m2, (total, u, (p, q), same, n), o, j), _, items, (some, small, g), few, less, r) =
        along (at_group x) (begins q)
        (y.items, mg, mf, m2, eh, e, omega arith, o, omega arith, small, same, omega arith, g, few, omega arith, r)
    forth (at_item x) ([], mg, mf, m, eh, e, i, (v, m2, q, o, j), some, small, same, items, g, few, less, r) =
        along (at_item x) (closes (some-null x.items (omega arith)) q (takes sh.strict x.head.total (sum (items_of x)) small same))
        (mg, mf, m2, eh, e, omega arith, o, omega arith, omega (arith, length-rev x.items []), g, few, omega (arith, length-rev x.items []), r)
    forth (at_item x) (y ∷ mx, mg, mf, m, eh, e, i, (v, m2, q, o, j), some, small, same, items, g, few, less, r) =
        along (at_item x) (more (has_room sh x (omega arith) (omega arith)) q)
        (mx, mg, mf, m2, eh, e, omega arith, o, omega arith, small, same, omega arith, g, few, omega arith, r)
    forth (stop a) c = rw (stays_step sh today k t a) c
