-- One line, judged against a register, is judged as ever and leaves the register content; or the register speaks against it, where the line as ever
-- would not leave it content. Assumes nothing.
use mathlib.Core.Path.{◌≡◌, refl, sym, ap, ◌∙◌}
use mathlib.Core.Bool.{true, false}
use mathlib.Core.List.{List}
use Prim.Native.Nat.{ℕ, ◌+◌, ◌<◌, ◌≤◌}
use native.Mathlib.Omega.{arith}
use lib.ListN.{length}
use borrow.Author.Tests.{le-leb, lt-leb}
use Rattle.base.specs.Pick.{pick}
use Rattle.base.proofs.Cases.{by-test, by-lt}
use Rattle.sheet.specs.declared.Sheet.{Sheet}
use Rattle.paper.specs.Warnings.{Notice}
use Rattle.paper.specs.Batch.{Header}
use Rattle.paper.specs.Lines.{Line}
use Rattle.paper.specs.Entries.{Entry, head, file, Places, got, no, said, counted, Kind, head_line, file_line, group_line, item_line, group_end, file_end, kind_of}
use Rattle.paper.specs.FirstLine.{read_first}
use Rattle.paper.specs.FileLine.{series, number_fault, read_file}
use Rattle.paper.specs.Spells.{after, number_test, read_as, read_line}
use Rattle.paper.specs.Judge.{Answer, Refused, Between, InFile, InGroup, State, at_first, at_file, at_group, at_item, stop, seen, context_of, code, is_due, is_full, file_opened, on_said, read, step}
use Rattle.paper.specs.FirstFault.{Follows}
use Rattle.paper.proofs.Passing.{counted-said}
use Rattle.exact.proofs.Counts.{wrong}
use Rattle.exact.proofs.Told.{told-line, kind-head, kind-file}
use Rattle.exact.proofs.Moves.{Moves, heads, opens, begins, more, closes, finishes}
use Rattle.register.specs.Register.{Register, fits, used}
use Rattle.against.specs.Against.{unused_test, day_of, is_other, read_first_on, read_on, line_on, step_on}
use Rattle.against.specs.FirstUsed.{Unused, Reaches}
use Rattle.against.proofs.First.{first-day, other-day, is-other, its-day}
use Rattle.against.proofs.Numbers.{none-unused, more-unused, first-unused, rest-unused, reached-22, Opening, alike, hit, opening}
use Rattle.against.proofs.Shape.{shape}

-- ---- the register is content with what was read so far: it is for that date, and marks none of those numbers

module _ (reg : Register) where
  abbrev pub Clear : State → Type 0
  Clear at_first = Unit {0}
  Clear (at_file x) = (fits reg x.header.date ≡ true) × Unused (used reg) x.files
  Clear (at_group x) = (fits reg x.header.date ≡ true) × Unused (used reg) x.files × (used reg (series x.opening.number) ≡ false)
  Clear (at_item x) = (fits reg x.header.date ≡ true) × Unused (used reg) x.files × (used reg (series x.opening.number) ≡ false)
  Clear (stop a) = Unit {0}

  -- content behind a line, content before it
  pub clear-back : {sh : Sheet} {today k : ℕ} {t : Line} {st new : State} → Moves sh today k t st new → Clear new → Clear st
  clear-back (heads q) c = tt
  clear-back (opens few q) c = (c.0, c.1)
  clear-back (begins q) c = c
  clear-back (more free q) c = c
  clear-back (closes some q good) c = c
  clear-back (finishes some q) c = (c.0, rest-unused (used reg) _ _ c.1, first-unused (used reg) _ _ c.1)

module _ (reg : Register) (sh : Sheet) (today k : ℕ) (t : Line) where
  -- the three ways of one line
  pub data Way : State → Type 0 where
    kept : {st : State} → step_on reg sh today k t st ≡ step sh today k t st → ((new : State) → Moves sh today k t st new → Clear reg new) → Way st
    dated : {d : ℕ}
        → kind_of t.bytes ≡ head_line
        → day_of t.bytes ≡ got d
        → fits reg d ≡ false
        → ((new : State) → Moves sh today k t at_first new → Clear reg new → ⊥)
        → Way at_first
    struck : {x : Between} {n off : ℕ}
        → length x.files < 1000
        → kind_of t.bytes ≡ file_line
        → Reaches sh t.bytes n off
        → number_fault sh.interval x.header (seen x.files) n ≡ 0
        → used reg (series n) ≡ true
        → ((new : State) → Moves sh today k t (at_file x) new → Clear reg new → ⊥)
        → Way (at_file x)

  kinds : {A : Type 0} {a b : Kind} → a ≡ b → (code a ≡ code b → ⊥) → A
  kinds e d = absurd (d (ap code e))

  -- ---- where the register speaks against the line

  date-line : is_other reg (day_of t.bytes) ≡ true → line_on reg sh today k t head_line at_first ≡ stop (Refused 23 k (t.start + 4))
  unfolding line_on is_due is_full read_on read_first_on counted on_said pick
  date-line o = rw o

  pub date-strikes : (d : ℕ) → kind_of t.bytes ≡ head_line → day_of t.bytes ≡ got d → fits reg d ≡ false
      → step_on reg sh today k t at_first ≡ stop (Refused 23 k (t.start + 4))
  unfolding step_on
  date-strikes d j r o = rw j (date-line (is-other reg _ d r o))

  number-line : (x : Between) (off : ℕ) → length x.files < 1000
      → read_file sh (unused_test (used reg) (number_test sh (after x.header (seen x.files)))) t.bytes ≡ no 22 off
      → line_on reg sh today k t file_line (at_file x) ≡ stop (Refused 22 k (t.start + off))
  unfolding line_on is_due is_full read_on context_of counted on_said pick
  number-line x off room e = rw (lt-leb 1000 (length x.files) room, e)

  pub number-strikes : (x : Between) (n off : ℕ) → length x.files < 1000 → kind_of t.bytes ≡ file_line → Reaches sh t.bytes n off
      → number_fault sh.interval x.header (seen x.files) n ≡ 0 → used reg (series n) ≡ true
      → step_on reg sh today k t (at_file x) ≡ stop (Refused 22 k (t.start + off))
  unfolding step_on number_test
  number-strikes x n off room j r z m = rw j (number-line x off room (reached-22 (used reg) _ sh t.bytes n off r z m))

  -- ---- where it does not

  group-alike : (x : InFile) (kind : Kind) → line_on reg sh today k t kind (at_group x) ≡ read sh today k t kind (at_group x)
  unfolding line_on read is_due read_on read_as pick
  group-alike x head_line = refl
  group-alike x file_line = refl
  group-alike x group_line = refl
  group-alike x item_line = refl
  group-alike x group_end = refl
  group-alike x file_end = refl

  item-alike : (x : InGroup) (kind : Kind) → line_on reg sh today k t kind (at_item x) ≡ read sh today k t kind (at_item x)
  unfolding line_on read is_due read_on read_as pick
  item-alike x head_line = refl
  item-alike x file_line = refl
  item-alike x group_line = refl
  item-alike x item_line = refl
  item-alike x group_end = refl
  item-alike x file_end = refl

  group-clear : (x : InFile) → Clear reg (at_group x) → (new : State) → Moves sh today k t (at_group x) new → Clear reg new
  group-clear x c new (begins q) = c
  group-clear x c new (finishes some q) = (c.0, more-unused (used reg) _ _ c.2 c.1)

  item-clear : (x : InGroup) → Clear reg (at_item x) → (new : State) → Moves sh today k t (at_item x) new → Clear reg new
  item-clear x c new (more free q) = c
  item-clear x c new (closes some q good) = c

  -- ---- the first line

  module _ (headed : sh.header ≡ true) where
    -- it is of the day that is read of it alone
    head-listed : (e : Entry) (v : ℕ) (p : Places) → kind_of t.bytes ≡ head_line → read_line sh today (context_of at_first) t.bytes ≡ said e v p
        → (w : List Notice) × (read_first sh t.bytes ≡ said e w p)
    unfolding read_line read_as
    head-listed e v p j q = counted-said (read_first sh t.bytes) (sym (rw j at q))

    header-day : (h : Header) (v : ℕ) → Follows sh today t at_first (head h) v → day_of t.bytes ≡ got h.date
    header-day h v (p, q) =
        let (w, e) = head-listed (head h) v p (kind-head (told-line sh today _ t.bytes _ q)) q in first-day h w p sh t.bytes headed e

    first_alike : (kind : Kind) → (kind ≡ head_line → is_other reg (day_of t.bytes) ≡ false)
        → line_on reg sh today k t kind at_first ≡ read sh today k t kind at_first
    unfolding line_on read is_due read_on read_first_on read_as pick
    first_alike head_line f = rw (f refl)
    first_alike file_line f = refl
    first_alike group_line f = refl
    first_alike item_line f = refl
    first_alike group_end f = refl
    first_alike file_end f = refl

    first-clear : (kind_of t.bytes ≡ head_line → is_other reg (day_of t.bytes) ≡ false) → (new : State) → Moves sh today k t at_first new → Clear reg new
    first-clear f new (heads {h = h} {v = v} (p, q)) =
        (its-day reg _ h.date (header-day h v (p, q)) (f (kind-head (told-line sh today _ t.bytes _ q))), none-unused (used reg))

    first-other : (d : ℕ) → day_of t.bytes ≡ got d → fits reg d ≡ false → (new : State) → Moves sh today k t at_first new → Clear reg new → ⊥
    first-other d r o new (heads {h = h} {v = v} q) c =
        let y : got h.date ≡ got d = sym (header-day h v q) ∙ r in let z : h.date ≡ d = cc in wrong c.0 (rw z o)

    first-kept : (kind_of t.bytes ≡ head_line → is_other reg (day_of t.bytes) ≡ false) → Way at_first
    unfolding step_on step
    first-kept f = kept (first_alike (kind_of t.bytes) f) (first-clear f)

    first-dated : kind_of t.bytes ≡ head_line → is_other reg (day_of t.bytes) ≡ true → Way at_first
    first-dated j o = let (d, r, a) = other-day reg (day_of t.bytes) o in dated j r a (first-other d r a)

    first_way : (kind : Kind) → kind_of t.bytes ≡ kind → Way at_first
    first_way head_line j = by-test (is_other reg (day_of t.bytes)) (first-dated j) (λ o. first-kept (λ _. o))
    first_way file_line j = first-kept (λ i. kinds (sym j ∙ i) (λ e. omega arith))
    first_way group_line j = first-kept (λ i. kinds (sym j ∙ i) (λ e. omega arith))
    first_way item_line j = first-kept (λ i. kinds (sym j ∙ i) (λ e. omega arith))
    first_way group_end j = first-kept (λ i. kinds (sym j ∙ i) (λ e. omega arith))
    first_way file_end j = first-kept (λ i. kinds (sym j ∙ i) (λ e. omega arith))

  -- ---- the line of an account file

  module _ (x : Between) where
    -- what document 01 refuses its number with
    abbrev test : ℕ → ℕ
    test = number_test sh (after x.header (seen x.files))

    file-listed : (e : Entry) (v : ℕ) (p : Places) → kind_of t.bytes ≡ file_line → read_line sh today (context_of (at_file x)) t.bytes ≡ said e v p
        → (w : List Notice) × (read_file sh test t.bytes ≡ said e w p)
    unfolding read_line read_as context_of
    file-listed e v p j q = counted-said (read_file sh test t.bytes) (sym (rw j at q))

    file-alike : (kind : Kind) → (kind ≡ file_line → read_file sh (unused_test (used reg) test) t.bytes ≡ read_file sh test t.bytes)
        → line_on reg sh today k t kind (at_file x) ≡ read sh today k t kind (at_file x)
    unfolding line_on read is_due read_on read_as context_of pick
    file-alike head_line f = refl
    file-alike file_line f = rw (f refl)
    file-alike group_line f = refl
    file-alike item_line f = refl
    file-alike group_end f = refl
    file-alike file_end f = refl

    -- account file 1,001 is refused before its number is read
    file-over : 1000 ≤ length x.files → line_on reg sh today k t file_line (at_file x) ≡ read sh today k t file_line (at_file x)
    unfolding line_on read is_due is_full pick
    file-over full = rw (le-leb 1000 (length x.files) full)

    -- what is known of the number of an account file that is opened
    file-opened : (P : State → Type 0)
        → ((kind n v : ℕ) (w : List Notice) (p : Places) → length x.files < 1000 → kind_of t.bytes ≡ file_line
        → read_file sh test t.bytes ≡ said (file kind n) w p → P (at_group (file_opened x kind n v)))
        → (new : State) → Moves sh today k t (at_file x) new → P new
    file-opened P f new (opens {kind = a} {number = n} {v = v} few (p, q)) =
        let j = kind-file (told-line sh today _ t.bytes _ q) in
        let (w, e) = file-listed (file a n) v p j q in
        f a n v w p few j e

    module _ (c : Clear reg (at_file x)) where
      file-read : length x.files < 1000 → kind_of t.bytes ≡ file_line → Opening (used reg) test sh t.bytes → Way (at_file x)
      unfolding step_on step number_test
      file-read room j (alike e free) =
          kept (file-alike (kind_of t.bytes) (λ _. e)) (file-opened (Clear reg) (λ kind n v w p _ _ q. (c.0, c.1, free kind n w p q)))
      file-read room j (hit r z m its) =
          struck room j r z m (file-opened (λ new. Clear reg new → ⊥) (λ kind a v w p _ _ q d. wrong m (rw (its kind a w p q) at d.2)))

      file-full : 1000 ≤ length x.files → kind_of t.bytes ≡ file_line → Way (at_file x)
      unfolding step_on step
      file-full full j = kept {st = at_file x} (rw j (file-over full)) (file-opened (Clear reg) (λ kind n v w p few _ q. absurd (omega arith)))

      file-kept : (kind_of t.bytes ≡ file_line → ⊥) → Way (at_file x)
      unfolding step_on step
      file-kept no-file =
          kept (file-alike (kind_of t.bytes) (λ j. absurd (no-file j))) (file-opened (Clear reg) (λ kind n v w p _ j q. absurd (no-file j)))

      file-way : (kind : Kind) → kind_of t.bytes ≡ kind → Way (at_file x)
      file-way head_line j = file-kept (λ i. kinds (sym j ∙ i) (λ e. omega arith))
      file-way file_line j =
          by-lt (length x.files) 1000 (λ room. file-read room j (opening (used reg) test sh t.bytes (shape sh t.bytes))) (λ full. file-full full j)
      file-way group_line j = file-kept (λ i. kinds (sym j ∙ i) (λ e. omega arith))
      file-way item_line j = file-kept (λ i. kinds (sym j ∙ i) (λ e. omega arith))
      file-way group_end j = file-kept (λ i. kinds (sym j ∙ i) (λ e. omega arith))
      file-way file_end j = file-kept (λ i. kinds (sym j ∙ i) (λ e. omega arith))

  -- ---- any line

  stopped : {A : Type 0} {a : Answer} {new : State} → Moves sh today k t (stop a) new → A
  stopped = elim [ ]

  pub way : sh.header ≡ true → (st : State) → Clear reg st → Way st
  unfolding step_on step
  way headed at_first c = first_way headed (kind_of t.bytes) refl
  way headed (at_file x) c = file-way x c (kind_of t.bytes) refl
  way headed (at_group x) c = kept (group-alike x (kind_of t.bytes)) (group-clear x c)
  way headed (at_item x) c = kept (item-alike x (kind_of t.bytes)) (item-clear x c)
  way headed (stop a) c = kept refl (λ new m. stopped m)
