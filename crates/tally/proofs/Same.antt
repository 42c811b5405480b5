-- The machine of numbers gives the judge's answer in brief. Assumes nothing.
use mathlib.Core.Path.{◌≡◌, refl, sym, ap, ◌∙◌}
use mathlib.Core.List.{List, [], ◌∷◌, ◌++◌, append-nil}
use Prim.Native.Nat.{ℕ, suc, ◌+◌}
use native.Mathlib.Omega.{arith}
use lib.ListN.{length}
use Rattle.sheet.specs.declared.Sheet.{Sheet}
use Rattle.paper.specs.Batch.{Batch, Header, sum, things}
use Rattle.paper.specs.Lines.{Line, lines_of}
use Rattle.paper.specs.Entries.{Entry, head, file, group, item, close_group, close_file, Places, saying, Counted, got, no, counted, Kind, kind_of, on_head, on_file, on_group, on_item, on_entry}
use Rattle.paper.specs.Spells.{read_as, differs, group_items, file_items}
use Rattle.paper.specs.Judge.{InGroup, State, at_first, at_file, at_group, at_item, stop, seen, rev_on}
use Rattle.paper.specs.Judge as judge
use Rattle.paper.proofs.Lists.{empty-null, length-rev, items-rev, sum-rev}
use Rattle.tally.specs.Tally.{brief}
use Rattle.tally.specs.Tally as numbers
use Rattle.tally.specs.Abs.{group_rows, file_rows, open_book, open_shelf, open_group, abs}
use Rattle.tally.proofs.Abs.{map-pick, group_rows-rev, file_rows-rev, things-rows}

-- ---- the context, what is due, and when it is full

pub contexts : (st : State) → judge.context_of st ≡ numbers.context_of (abs st)
unfolding abs judge.context_of numbers.context_of
contexts at_first = refl
contexts (at_file x) = refl
contexts (at_group x) = refl
contexts (at_item x) = refl
contexts (stop a) = refl

pub dues : (kind : Kind) (st : State) → judge.is_due st kind ≡ numbers.is_due (abs st) kind
unfolding abs judge.is_due numbers.is_due
dues kind at_first = refl
dues kind (at_file y) = refl
dues kind (at_group y) = rw (← (empty-null y.groups))
dues kind (at_item y) = rw (← (empty-null y.items))
dues kind (stop a) = refl

pub fulls : (sh : Sheet) (kind : Kind) (st : State) → judge.is_full sh st kind ≡ numbers.is_full sh (abs st) kind
unfolding abs judge.is_full numbers.is_full
fulls sh kind at_first = refl
fulls sh kind (at_file y) = refl
fulls sh kind (at_group y) = refl
fulls sh kind (at_item y) = refl
fulls sh kind (stop a) = refl

-- ---- one line

stops : (n l p : ℕ) → abs (stop (judge.Refused n l p)) ≡ numbers.t_stop (numbers.No n l p)
unfolding abs brief
stops n l p = refl

module _ (sh : Sheet) (k at : ℕ) where
  closes : (y : InGroup) (v : ℕ)
      → abs (judge.closed sh y v)
      ≡ numbers.closed sh
      (open_book y.header y.files y.opening (length y.items + group_items y.groups) (group_rows y.groups + 1 + length y.items) y.warnings)
      (open_shelf y.opening (length y.items + group_items y.groups) y.groups) (open_group y.head y.items) v
  unfolding abs judge.closed numbers.closed brief sum group_items group_rows
  closes y v =
      let xs = y.items in
      let s : sum (rev_on xs []) ≡ sum xs = omega (arith, sum-rev xs []) in
      let n : length (rev_on xs []) ≡ length xs = omega (arith, length-rev xs []) in
      let d : y.warnings + v + differs y.head.total (sum xs) ≡ y.warnings + (v + differs y.head.total (sum xs)) = omega arith in
      let r : file_rows y.files + 1 + (1 + length xs + group_rows y.groups) ≡ file_rows y.files + 1 + (group_rows y.groups + 1 + length xs) = omega arith in
      let m : suc (length y.groups) ≡ length y.groups + 1 = omega arith in
      map-pick abs _ _ _ ∙ rw (s, n, d, r, m)

  meets : (e : Entry) (v : ℕ) (q : Places) (st : State) → abs (judge.meet sh k at (saying e v q) st) ≡ numbers.meet sh k at (saying e v q) (abs st)
  unfolding abs judge.meet numbers.meet on_entry on_head on_file on_group on_item brief seen sum group_items file_items group_rows file_rows
  meets (head h) v q at_first = refl
  meets (file n m) v q at_first = refl
  meets (group p t d) v q at_first = refl
  meets (item x) v q at_first = refl
  meets close_group v q at_first = refl
  meets close_file v q at_first = refl
  meets (head _) v q (at_file y) = refl
  meets (file n m) v q (at_file y) =
      let i : 0 + file_items y.files ≡ file_items y.files = omega arith in
      let r : file_rows y.files + 1 + 0 ≡ file_rows y.files + 1 = omega arith in
      cc
  meets (group p t d) v q (at_file y) = refl
  meets (item x) v q (at_file y) = refl
  meets close_group v q (at_file y) = refl
  meets close_file v q (at_file y) = refl
  meets (head _) v q (at_group y) = refl
  meets (file n m) v q (at_group y) = refl
  meets (group p t d) v q (at_group y) =
      let i : 0 + group_items y.groups ≡ group_items y.groups = omega arith in
      let r : file_rows y.files + 1 + (group_rows y.groups + 1 + 0) ≡ file_rows y.files + 1 + group_rows y.groups + 1 = omega arith in
      cc
  meets (item x) v q (at_group y) = refl
  meets close_group v q (at_group y) = refl
  meets close_file v q (at_group y) =
      let n : suc (length y.files) ≡ length y.files + 1 = omega arith in
      let i : group_items (rev_on y.groups []) ≡ group_items y.groups = omega (arith, items-rev y.groups []) in
      let r : 1 + group_rows (rev_on y.groups []) + file_rows y.files ≡ file_rows y.files + 1 + group_rows y.groups = omega (arith, group_rows-rev y.groups []) in
      cc
  meets (head _) v q (at_item y) = refl
  meets (file n m) v q (at_item y) = refl
  meets (group p t d) v q (at_item y) = refl
  meets (item x) v q (at_item y) =
      let i : suc (length y.items) + group_items y.groups ≡ length y.items + group_items y.groups + 1 = omega arith in
      let j : suc (length y.items) + group_items y.groups + file_items y.files ≡ length y.items + group_items y.groups + file_items y.files + 1 = omega arith in
      let r : file_rows y.files + 1 + (group_rows y.groups + 1 + suc (length y.items)) ≡ file_rows y.files + 1 + (group_rows y.groups + 1 + length y.items) + 1 = omega arith in
      let s : x.amount + sum y.items ≡ sum y.items + x.amount = omega arith in
      let n : suc (length y.items) ≡ length y.items + 1 = omega arith in
      cc
  meets close_group v q (at_item y) = closes y v
  meets close_file v q (at_item y) = refl
  meets (head h) v q (stop a) = refl
  meets (file n m) v q (stop a) = refl
  meets (group p t d) v q (stop a) = refl
  meets (item x) v q (stop a) = refl
  meets close_group v q (stop a) = refl
  meets close_file v q (stop a) = refl

  pub saids : (r : Counted) (st : State) → abs (judge.on_said sh k at r st) ≡ numbers.on_said sh k at r (abs st)
  unfolding judge.on_said numbers.on_said abs brief
  saids (got t) st = meets t.entry t.warnings t.places st
  saids (no n off) st = refl

module _ (sh : Sheet) (today k : ℕ) (t : Line) where
  pub reads : (kind : Kind) (st : State) → abs (judge.read sh today k t kind st) ≡ numbers.read sh today k t kind (abs st)
  unfolding judge.read numbers.read
  reads kind st =
      rw (
        map-pick abs (judge.is_due st kind),
        map-pick abs (judge.is_full sh st kind),
        saids sh k t.start (counted (read_as sh today (judge.context_of st) kind t.bytes)) st,
        stops 15,
        stops 3,
        contexts st,
        dues kind st,
        fulls sh kind st,
      )

  pub steps : (st : State) → abs (judge.step sh today k t st) ≡ numbers.step sh today k t (abs st)
  unfolding judge.step numbers.step abs
  steps at_first = reads (kind_of t.bytes) at_first
  steps (at_file y) = reads (kind_of t.bytes) (at_file y)
  steps (at_group y) = reads (kind_of t.bytes) (at_group y)
  steps (at_item y) = reads (kind_of t.bytes) (at_item y)
  steps (stop a) = refl

-- ---- the end

rev-back : {A : Type 0} (a m r : List A) → rev_on (rev_on a m) r ≡ rev_on m (a ++ r)
rev-back [] m r = refl
rev-back (x ∷ a) m r = rev-back a (x ∷ m) r

-- turned round twice, a list is as it was
pub rev-rev : {A : Type 0} (a : List A) → rev_on (rev_on a []) [] ≡ a
rev-rev a = rev-back a [] [] ∙ append-nil a

pub endings : (n k : ℕ) (st : State) → brief (judge.end_of n k st) ≡ numbers.end_of n k (abs st)
unfolding judge.end_of numbers.end_of abs brief file_rows
endings n k at_first = refl
endings n k (at_file y) =
    let r : length (things (rev_on y.files [])) ≡ file_rows y.files = omega (arith, things-rows (rev_on y.files []), file_rows-rev y.files []) in
    map-pick brief _ _ _ ∙ rw (← (empty-null y.files), rev-rev y.files, r)
endings n k (at_group y) = refl
endings n k (at_item y) = refl
endings n k (stop a) = refl

-- the lines from any state on: the judge's answer in brief is that of the state's numbers
pub same : (sh : Sheet) (today n k : ℕ) (ts : List Line) (st : State) → brief (judge.run sh today n k ts st) ≡ numbers.run sh today n k ts (abs st)
unfolding judge.run numbers.run
same sh today n k [] st = endings n k st
same sh today n k (t ∷ ts) st =
    same sh today n (suc k) ts (judge.step sh today k t st) ∙ ap (numbers.run sh today n (suc k) ts) (steps sh today k t st)

-- the file from its top
pub tally-is : (sh : Sheet) (today : ℕ) (f : List ℕ) → numbers.tally sh today f ≡ brief (judge.judge sh today f)
unfolding numbers.tally judge.judge abs
tally-is sh today f = sym (same sh today (length f) 1 (lines_of 0 f) at_first)

-- ---- what the judge answered, from its answer in brief

pub refused-is : (a : judge.Answer) (n l p : ℕ) → brief a ≡ numbers.No n l p → a ≡ judge.Refused n l p
unfolding brief
refused-is (judge.Refused n₁ l₁ p₁) n l p e =
    let a : n₁ ≡ n = cc in
    let b : l₁ ≡ l = cc in
    let c : p₁ ≡ p = cc in
    rw (a, b, c)
refused-is (judge.Accepted h b w) n l p e = absurd (let z : ◌≡◌ {A = ℕ} 0 1 = cc in omega arith)

-- the numbers are those of its account files, last one first
pub accepted-is : (a : judge.Answer) (h : Header) (s : List ℕ) (n w : ℕ) → brief a ≡ numbers.Yes h s n w
    → (b : Batch) × (a ≡ judge.Accepted h b w) × (n ≡ length (things b)) × (s ≡ seen (rev_on b []))
unfolding brief
accepted-is (judge.Refused n₁ l₁ p₁) h s n w e = absurd (let z : ◌≡◌ {A = ℕ} 0 1 = cc in omega arith)
accepted-is (judge.Accepted h₁ b w₁) h s n w e =
    let x : h₁ ≡ h = cc in
    let y : w₁ ≡ w = cc in
    let z : n ≡ length (things b) = cc in
    let v : s ≡ seen (rev_on b []) = cc in
    (b, rw (x, y), z, v)
