-- What one line does to a state: it moves it on in one of six ways, or it breaks a rule. Assumes nothing.
use mathlib.Core.Path.{◌≡◌, refl, ap, ◌∙◌}
use mathlib.Core.Bool.{true, false}
use mathlib.Core.List.{List, [], ◌∷◌}
use Prim.Native.Nat.{ℕ, ◌+◌, ◌<◌}
use lib.ListN.{length}
use borrow.Author.Tests.{leb-false, lt-leb}
use Rattle.base.specs.Pick.{pick}
use Rattle.base.proofs.Cases.{either, pick_true, pick-false}
use Rattle.sheet.specs.declared.Sheet.{Sheet}
use Rattle.paper.specs.Bytes.{null}
use Rattle.paper.specs.Accounts.{Account}
use Rattle.paper.specs.Batch.{Item, Header, sum}
use Rattle.paper.specs.Lines.{Line}
use Rattle.paper.specs.Entries.{head, file, group, item, close_group, close_file, Places, Counted, said, no, Kind, head_line, file_line, group_line, item_line, group_end, file_end, kind_of, on_head, on_file, on_group, on_item, on_entry}
use Rattle.paper.specs.Spells.{read_line}
use Rattle.paper.specs.Judge.{Answer, Refused, Between, InFile, InGroup, State, at_first, at_file, at_group, at_item, stop, context_of, is_due, is_full, total_broken, begun, file_opened, group_opened, item_added, items_of, group_closed, file_closed, closed, meet, on_said, read, step}
use Rattle.paper.specs.FirstFault.{Follows, Broken, not-due, full, in_line, total}
use Rattle.exact.proofs.Counts.{wrong}
use Rattle.exact.proofs.Told.{Told, of_head, of_file, of_group, of_item, of_group_end, of_file_end, of_none, told, told-line, kind-head, kind-file, kind-group, kind-item, kind-group-end, kind-file-end}

module _ (sh : Sheet) (today : ℕ) where
  -- line k, t, is the next of a lawful file
  pub data Moves (k : ℕ) (t : Line) : State → State → Type 0 where
    heads : {h : Header} {v : ℕ} → Follows sh today t at_first (head h) v → Moves k t at_first (at_file (begun h v))
    opens : {x : Between} {kind number v : ℕ}
        → length x.files < 1000
        → Follows sh today t (at_file x) (file kind number) v
        → Moves k t (at_file x) (at_group (file_opened x kind number v))
    begins : {x : InFile} {payer : Account} {total date v : ℕ} {p : Places}
        → read_line sh today (context_of (at_group x)) t.bytes ≡ said (group payer total date) v p
        → Moves k t (at_group x)
        (at_item (group_opened x (record { payer = payer; date = date; total = total; line = k; byte = t.start + p.total }) v))
    more : {x : InGroup} {v : ℕ} {i : Item}
        → is_full sh (at_item x) item_line ≡ false
        → Follows sh today t (at_item x) (item i) v
        → Moves k t (at_item x) (at_item (item_added x i v))
    closes : {x : InGroup} {v : ℕ}
        → null x.items ≡ false
        → Follows sh today t (at_item x) close_group v
        → total_broken sh.strict x.head.total (sum (items_of x)) ≡ false
        → Moves k t (at_item x) (at_group (group_closed x v))
    finishes : {x : InFile} {v : ℕ}
        → null x.groups ≡ false
        → Follows sh today t (at_group x) close_file v
        → Moves k t (at_group x) (at_file (file_closed x v))

  -- the line moves the state on, or breaks a rule in it; what has stopped stays
  pub data Next (size k : ℕ) (t : Line) (ts : List Line) : State → State → Type 0 where
    on : {st new : State} → Moves k t st new → Next size k t ts st new
    halted : {st : State} {n l p : ℕ} → Broken sh today size k st (t ∷ ts) (Refused n l p) → Next size k t ts st (stop (Refused n l p))
    stays : {a : Answer} → Next size k t ts (stop a) (stop a)

  module _ (size k : ℕ) (t : Line) (ts : List Line) where
    abbrev To : State → State → Type 0
    To st new = Next size k t ts st new

    pick-null : {A : Type 0} (a : List A) → pick (null a) false true ≡ true → null a ≡ false
    unfolding null pick
    pick-null [] e = wrong e refl
    pick-null (x ∷ a) e = refl

    -- a group's closing line
    shut : (x : InGroup) (v : ℕ) → null x.items ≡ false → Follows sh today t (at_item x) close_group v → To (at_item x) (closed sh x v)
    unfolding closed
    shut x v some q = either (To (at_item x)) _ (λ e. halted (total some q e)) (λ e. on (closes some q e))

    faulty : (kind : Kind) (st : State) {n off : ℕ} → kind_of t.bytes ≡ kind → is_due st kind ≡ true → is_full sh st kind ≡ false
        → read_line sh today (context_of st) t.bytes ≡ no n off → To st (stop (Refused n k (t.start + off)))
    faulty kind st j d f q = halted (in_line {st = st} {t = t} (rw j d) (rw j f) q)

    says : (kind : Kind) (r : Counted) (st : State) → Told kind r → kind_of t.bytes ≡ kind → read_line sh today (context_of st) t.bytes ≡ r
        → is_due st kind ≡ true → is_full sh st kind ≡ false → To st (on_said sh k t.start r st)
    unfolding on_said meet is_due is_full on_entry on_head on_file on_group on_item pick
    says kind r at_first of_none j q d f = faulty kind _ j d f q
    says kind r at_first of_head j q d f = on (heads (_, q))
    says kind r at_first of_file j q d f = wrong d refl
    says kind r at_first of_group j q d f = wrong d refl
    says kind r at_first of_item j q d f = wrong d refl
    says kind r at_first of_group_end j q d f = wrong d refl
    says kind r at_first of_file_end j q d f = wrong d refl
    says kind r (at_file x) of_none j q d f = faulty kind _ j d f q
    says kind r (at_file x) of_head j q d f = wrong d refl
    says kind r (at_file x) of_file j q d f = on (opens (leb-false 1000 (length x.files) f) (_, q))
    says kind r (at_file x) of_group j q d f = wrong d refl
    says kind r (at_file x) of_item j q d f = wrong d refl
    says kind r (at_file x) of_group_end j q d f = wrong d refl
    says kind r (at_file x) of_file_end j q d f = wrong d refl
    says kind r (at_group x) of_none j q d f = faulty kind _ j d f q
    says kind r (at_group x) of_head j q d f = wrong d refl
    says kind r (at_group x) of_file j q d f = wrong d refl
    says kind r (at_group x) of_group j q d f = on (begins q)
    says kind r (at_group x) of_item j q d f = wrong d refl
    says kind r (at_group x) of_group_end j q d f = wrong d refl
    says kind r (at_group x) of_file_end j q d f = on (finishes (pick-null x.groups d) (_, q))
    says kind r (at_item x) of_none j q d f = faulty kind _ j d f q
    says kind r (at_item x) of_head j q d f = wrong d refl
    says kind r (at_item x) of_file j q d f = wrong d refl
    says kind r (at_item x) of_group j q d f = wrong d refl
    says kind r (at_item x) of_item j q d f = on (more f (_, q))
    says kind r (at_item x) of_group_end j q d f = shut x _ (pick-null x.items d) (_, q)
    says kind r (at_item x) of_file_end j q d f = wrong d refl
    says kind r (stop a) _ j q d f = wrong d refl

    reads : (st : State) → To st (read sh today k t (kind_of t.bytes) st)
    unfolding read read_line
    reads st =
        either (To st) _
        (λ d. either (To st) _ (λ f. halted (full d f)) (λ f. says (kind_of t.bytes) _ st (told sh today _ _ _) refl refl d f))
        (λ d. halted (not-due d))

    -- every line does one or the other
    pub next : (st : State) → To st (step sh today k t st)
    unfolding step
    next at_first = reads at_first
    next (at_file x) = reads (at_file x)
    next (at_group x) = reads (at_group x)
    next (at_item x) = reads (at_item x)
    next (stop a) = stays

  -- ---- and a move is what the machine makes

  module _ (k : ℕ) (t : Line) where
    -- a line that is due and not one too many is read
    pub passes : (st : State) (kind : Kind) (r : Counted) → kind_of t.bytes ≡ kind → is_due st kind ≡ true → is_full sh st kind ≡ false
        → read_line sh today (context_of st) t.bytes ≡ r → read sh today k t (kind_of t.bytes) st ≡ on_said sh k t.start r st
    unfolding read read_line
    passes st kind r j d f q = pick_true _ _ (rw j d) ∙ pick-false _ _ (rw j f) ∙ ap (λ r. on_said sh k t.start r st) q

    pub moves-step : {st new : State} → Moves k t st new → step sh today k t st ≡ new
    unfolding step on_said meet is_due is_full on_entry on_head on_file on_group on_item closed pick
    moves-step (heads {h = h} {v = v} (p, q)) =
        passes at_first head_line _ (kind-head (told-line sh today _ t.bytes _ q)) refl refl q
    moves-step (opens {x = x} few (p, q)) =
        passes (at_file x) file_line _ (kind-file (told-line sh today _ t.bytes _ q)) refl (lt-leb 1000 (length x.files) few) q
    moves-step (begins {x = x} q) =
        passes (at_group x) group_line _ (kind-group (told-line sh today _ t.bytes _ q)) refl refl q
    moves-step (more {x = x} room (p, q)) =
        passes (at_item x) item_line _ (kind-item (told-line sh today _ t.bytes _ q)) refl room q
    moves-step (closes {x = x} some (p, q) good) =
        passes (at_item x) group_end _ (kind-group-end (told-line sh today _ t.bytes _ q)) (rw some) refl q ∙ pick-false _ _ good
    moves-step (finishes {x = x} some (p, q)) =
        passes (at_group x) file_end _ (kind-file-end (told-line sh today _ t.bytes _ q)) (rw some) refl q

    pub stays_step : (a : Answer) → step sh today k t (stop a) ≡ stop a
    unfolding step
    stays_step a = refl
