-- The rows of an accepted file's lines are, one by one, those of its batch. Assumes nothing.
use mathlib.Core.Path.{◌≡◌, refl, ap, ◌∙◌}
use mathlib.Core.Bool.{Bool, false}
use mathlib.Core.List.{List, [], ◌∷◌, ◌++◌}
use Prim.Native.Nat.{ℕ, suc}
use lib.ListN.{length}
use Rattle.sheet.specs.declared.Sheet.{Sheet}
use Rattle.paper.specs.Accounts.{Account, is_nobody}
use Rattle.paper.specs.Batch.{Item, Group, AccountFile, Batch, Header, Thing, a_file, a_group, an_item, item_things, group_things, things}
use Rattle.paper.specs.Lines.{Line, lines_of}
use Rattle.paper.specs.Entries.{Entry, head, file, group, item, close_group, close_file, Places, said}
use Rattle.paper.specs.FileLine.{series}
use Rattle.paper.specs.Spells.{Context, for_item, read_as, read_line, Due, item_dues, group_dues, file_dues, dues, SaysEntry, Each}
use Rattle.paper.specs.Rows.{things_in, file_row, group_row, item_row, text_spots, entry_row, line_row, single_after, single_behind, accepted, lines_rows}
use Rattle.scan.proofs.line.Places.{Stands, Stand}
use Rattle.exact.proofs.Told.{told-line, kind-file, kind-group, kind-item}
use Rattle.rowlaws.specs.Places.{Here}
use Rattle.rowlaws.proofs.Within.{head-again, file-line-again, group-again, item-again, group-end-again, file-end-again}
use Rattle.rowlaws.proofs.Kept.{kept-file, kept-group, kept-item}
use Rattle.rowlaws.proofs.Row.{Row, file-row, group-row, item-row}

-- each row holds its thing
pub data Rows (f : List ℕ) : List (List ℕ) → List Thing → Type 0 where
  end : Rows f [] []
  next : {r : List ℕ} {t : Thing} {rs : List (List ℕ)} {ts : List Thing} → Row f r t → Rows f rs ts → Rows f (r ∷ rs) (t ∷ ts)

-- ---- what entries put in front of a batch's things

entry_things : Entry → List Thing → List Thing
entry_things (head h) r = r
entry_things (file k n) r = a_file k n ∷ r
entry_things (group p t d) r = a_group d p ∷ r
entry_things (item x) r = an_item x ∷ r
entry_things close_group r = r
entry_things close_file r = r

due_things : List Due → List Thing
due_things [] = []
due_things (d ∷ ds) = entry_things d.entry (due_things ds)

-- an item is due in the context that the group before it makes
abbrev pub Meets : Bool → Context → Entry → Type 0
Meets b c (head h) = Unit {0}
Meets b c (file k n) = Unit {0}
Meets b c (group p t d) = Unit {0}
Meets b c (item x) = c.single ≡ b
Meets b c close_group = Unit {0}
Meets b c close_file = Unit {0}

abbrev pub Runs : Bool → List Due → Type 0
Runs b [] = Unit {0}
Runs b (d ∷ ds) = Meets b d.context d.entry × Runs (single_after b d.entry) ds

-- ---- one line

module _ (sh : Sheet) (today : ℕ) (f : List ℕ) where
  module _ (c : Context) (s : List ℕ) (v : ℕ) (q : Places) where
    pub line-file-row : (k n : ℕ) → read_line sh today c s ≡ said (file k n) v q → Row f (file_row k n) (a_file k n)
    unfolding read_line read_as
    line-file-row k n e =
        let i = kind-file (told-line sh today c s _ e) in
        let m = kept-file sh s v q _ k n (rw i at e) in
        file-row f k n m.0 m.1

    pub line-group-row : (p : Account) (t d : ℕ) → read_line sh today c s ≡ said (group p t d) v q → Row f (group_row d p) (a_group d p)
    unfolding read_line read_as
    line-group-row p t d e =
        let i = kind-group (told-line sh today c s _ e) in
        let m = kept-group sh s v q today _ p t d (rw i at e) in
        group-row f d p m.0 m.1

    pub line-item-row : (start : ℕ) (x : Item) → Here f start s → read_line sh today c s ≡ said (item x) v q → Row f (item_row start (text_spots q) x) (an_item x)
    unfolding read_line read_as
    line-item-row start x h e =
        let i = kind-item (told-line sh today c s _ e) in
        item-row f start s h x q (kept-item sh s v q _ _ x (rw i at e))

  -- a line's row stands in front of those of the lines behind it
  module _ (t : Line) (stands : Stands f t) (b : Bool) (m : Bool → List (List ℕ)) (ts : List Thing) where
    abbrev Front : Entry → Type 0
    Front e =
        Rows f (m (single_after b e)) ts
        → Rows f (line_row t.start (read_line sh today (accepted b) t.bytes) ++ m (single_behind b (read_line sh today (accepted b) t.bytes))) (entry_things e ts)

    one : (c : Context) (e : Entry) (w : ℕ) → Meets b c e → SaysEntry sh today t.bytes c e w → Front e
    unfolding line_row entry_row single_after single_behind entry_things
    one c (head h) w _ (p, q) r = rw (head-again sh today c b t.bytes w p h q) r
    one c (file k n) w _ (p, q) r =
        rw (file-line-again sh today c b t.bytes w p k n q) (next (line-file-row c t.bytes w p k n q) r)
    one c (group a exact d) w _ (total, v, (p, q), _, _) r =
        rw (group-again sh today c b t.bytes v p a total d q).1 (next (line-group-row c t.bytes v p a total d q) r)
    one c (item x) w i (p, q) r =
        rw (item-again sh today c b t.bytes w p x i q) (next (line-item-row c t.bytes w p t.start x stands.here q) r)
    one c close_group w _ (p, q) r = rw (group-end-again sh today c b t.bytes w p q) r
    one c close_file w _ (p, q) r = rw (file-end-again sh today c b t.bytes w p q) r

  -- ---- all lines

  filled : (b : Bool) (ls : List Line) (ds : List Due) (w : ℕ) → Stand f ls → Runs b ds → Each sh today ls ds w → Rows f (lines_rows sh today b ls) (due_things ds)
  unfolding lines_rows due_things
  filled b [] [] w s r e = end
  filled b [] (d ∷ ds) w s r e = absurd e
  filled b (t ∷ ls) [] w s r e = absurd e
  filled b (t ∷ ls) (d ∷ ds) w (s, ss) (r, rs) (v, u, q, e, _) =
      one t s b (λ (i : Bool). lines_rows sh today i ls) (due_things ds) d.context d.entry v r q
      (filled (single_after b d.entry) ls ds u ss rs e)

-- ---- a batch's lines: items in their groups' contexts

runs-items : (c : Context) (xs : List Item) (r : List Due) → Runs c.single r → Runs c.single (item_dues c xs r)
unfolding item_dues single_after
runs-items c [] r h = (tt, h)
runs-items c (x ∷ xs) r h = (refl, runs-items c xs r h)

runs-groups : (kind : ℕ) (b : Bool) (gs : List Group) (r : List Due) → ((i : Bool) → Runs i r) → Runs b (group_dues kind gs r)
unfolding group_dues single_after
runs-groups kind b [] r h = (tt, h b)
runs-groups kind b (g ∷ gs) r h =
    (tt, runs-items (for_item kind g.date (is_nobody g.payer)) g.items _ (runs-groups kind (is_nobody g.payer) gs r h))

runs-files : (h : Header) (seen : List ℕ) (fs : List AccountFile) (b : Bool) → Runs b (file_dues h seen fs)
unfolding file_dues single_after
runs-files h seen [] b = tt
runs-files h seen (f ∷ fs) b = (tt, runs-groups f.kind b f.groups _ (runs-files h (series f.number ∷ seen) fs))

pub runs-batch : (h : Header) (b : Batch) → Runs false (dues h b)
unfolding dues single_after
runs-batch h b = (tt, runs-files h [] b false)

-- ---- and its things

things-items : (c : Context) (xs : List Item) (r : List Due) → due_things (item_dues c xs r) ≡ item_things xs (due_things r)
unfolding item_dues item_things due_things entry_things
things-items c [] r = refl
things-items c (x ∷ xs) r = ap (λ (l : List Thing). an_item x ∷ l) (things-items c xs r)

things-groups : (kind : ℕ) (gs : List Group) (r : List Due) → due_things (group_dues kind gs r) ≡ group_things gs (due_things r)
unfolding group_dues group_things due_things entry_things
things-groups kind [] r = refl
things-groups kind (g ∷ gs) r =
    ap (λ (l : List Thing). a_group g.date g.payer ∷ l)
    (things-items _ g.items (group_dues kind gs r) ∙ ap (item_things g.items) (things-groups kind gs r))

things-files : (h : Header) (seen : List ℕ) (fs : List AccountFile) → due_things (file_dues h seen fs) ≡ things fs
unfolding file_dues things due_things entry_things
things-files h seen [] = refl
things-files h seen (f ∷ fs) =
    ap (λ (l : List Thing). a_file f.kind f.number ∷ l)
    (things-groups f.kind f.groups _ ∙ ap (group_things f.groups) (things-files h (series f.number ∷ seen) fs))

-- the rows of a file that spells a batch are those of the batch
pub batch-rows : (sh : Sheet) (today : ℕ) (f : List ℕ) (h : Header) (b : Batch) (w : ℕ)
    → Stand f (lines_of 0 f) → Each sh today (lines_of 0 f) (dues h b) w → Rows f (lines_rows sh today false (lines_of 0 f)) (things b)
unfolding dues due_things entry_things single_after
batch-rows sh today f h b w s e =
    rw (things-files h [] b) at (filled sh today f false (lines_of 0 f) (dues h b) w s (runs-batch h b) e)

-- ---- what follows for all rows

pub rows-count : {f : List ℕ} {rs : List (List ℕ)} {ts : List Thing} → Rows f rs ts → length rs ≡ length ts
rows-count end = refl
rows-count (next r rs) = ap suc (rows-count rs)

pub rows_tell : {f : List ℕ} {rs : List (List ℕ)} {ts : List Thing} → Rows f rs ts → things_in f rs ≡ ts
unfolding things_in
rows_tell end = refl
rows_tell (next r rs) = rw (r.tells, rows_tell rs)
