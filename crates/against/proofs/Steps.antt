-- One line judged in three ways from one state: as ever, against a register, and with the register's numbers seen before. Assumes nothing.
use mathlib.Core.Path.{◌≡◌, refl, sym, ap, ◌∙◌}
use mathlib.Core.Bool.{Bool, true, false}
use mathlib.Core.List.{List, [], ◌∷◌, ◌++◌}
use Prim.Native.Nat.{ℕ, ◌<◌}
use native.Mathlib.Omega.{arith}
use lib.Dec.{eqb, leb}
use lib.ListN.{length}
use Rattle.base.specs.Pick.{pick}
use Rattle.base.proofs.Cases.{by-test}
use Rattle.sheet.specs.declared.Sheet.{Sheet}
use Rattle.paper.specs.Accounts.{Account}
use Rattle.paper.specs.Batch.{Header, Item}
use Rattle.paper.specs.Lines.{Line}
use Rattle.paper.specs.Entries.{Entry, head, file, group, item, close_group, close_file, on_entry, on_file, on_group, on_item, Saying, Listed, Counted, plain, got, no, counted, Kind, head_line, file_line, group_line, item_line, group_end, file_end, kind_of}
use Rattle.paper.specs.FileLine.{series, member, number_fault, read_file}
use Rattle.paper.specs.Spells.{after, number_test, read_as}
use Rattle.paper.specs.Judge.{Answer, Refused, Accepted, Between, InFile, InGroup, State, at_first, at_file, at_group, at_item, stop, seen}
use Rattle.paper.specs.Judge as judge
use Rattle.paper.specs.FirstFault.{Broken, not-due, full, in_line, total}
use Rattle.exact.proofs.Moves.{Moves, heads, opens, begins, more, closes, finishes, Next, on, halted, stays, next}
use Rattle.tally.specs.Tally.{No, Tally, t_first, t_file, t_group, t_item, t_stop, Book, Shelf, Open, seed}
use Rattle.tally.specs.Tally as numbers
use Rattle.tally.specs.Abs.{abs}
use Rattle.tally.proofs.Abs.{map-pick}
use Rattle.tally.proofs.Same.{saids, reads}
use Rattle.register.specs.Marks.{Marks}
use Rattle.register.specs.Register.{Register, used}
use Rattle.against.specs.Against.{unused_test, read_on, line_on, step_on}
use Rattle.against.proofs.Shape.{Shape, early, whole, late, shape}

-- ---- the three tests of a number

data Tests : ℕ → ℕ → ℕ → Type 0 where
  agree : {v : ℕ} → Tests v v v
  marked : Tests 0 22 9

member-both : (x : ℕ) (l u : List ℕ) → member x (l ++ u) ≡ pick (member x l) true (member x u)
unfolding member pick
member-both x [] u = refl
member-both x (y ∷ l) u = by-test (eqb x y) (λ e. simp e) (λ e. simp e (member-both x l u))

-- the number is not below the interval, nor above it, and was seen
abbrev graded : Bool → Bool → Bool → ℕ
graded a b m = pick a (pick b (pick m 9 0) 9) 9

graded-tests : (a b m n : Bool) → Tests (graded a b m) (pick (eqb (graded a b m) 0) (pick n 22 0) (graded a b m)) (graded a b (pick m true n))
unfolding pick
graded-tests false b m n = agree
graded-tests true false m n = agree
graded-tests true true true n = agree
graded-tests true true false true = marked
graded-tests true true false false = agree

number-tests : (marks : Marks) (sh : Sheet) → sh.interval ≡ true → (u : List ℕ) → ((n : ℕ) → marks n ≡ member n u) → (h : Header) (l : List ℕ) (n : ℕ)
    → Tests (number_test sh (after h l) n) (unused_test marks (number_test sh (after h l)) n) (number_test sh (after h (l ++ u)) n)
unfolding number_test number_fault unused_test pick
number-tests marks sh i u is-used h l n =
    rw (i, member-both (series n) l u, is-used (series n))
    (graded-tests (leb h.from (series n)) (leb (series n) h.to) (member (series n) l) (member (series n) u))

-- ---- the three readings of an account file's line

-- where its number is right: it opens the account file, or is refused, and not with 9
data Quiet : Listed → Type 0 where
  opening : {kind n : ℕ} → Quiet (plain (file kind n))
  refusing : {c off : ℕ} → (c ≡ 9 → ⊥) → Quiet (no c off)

data Three : Listed → Listed → Listed → Type 0 where
  alike : {r : Listed} → Three r r r
  hit : {r : Listed} {off : ℕ} → Quiet r → Three r (no 22 off) (no 9 off)

by_tests : {a b c : ℕ} (r : Listed) (off : ℕ) → Quiet r → Tests a b c
    → Three (pick (eqb a 0) r (no a off)) (pick (eqb b 0) r (no b off)) (pick (eqb c 0) r (no c off))
unfolding pick
by_tests r off q agree = alike
by_tests r off q marked = hit q

module _ (sh : Sheet) (s : List ℕ) (a b c : ℕ → ℕ) (tests : (n : ℕ) → Tests (a n) (b n) (c n)) where
  three-of : Shape sh s → Three (read_file sh a s) (read_file sh b s) (read_file sh c s)
  three-of (early e h) = rw (h a, h b, h c) alike
  three-of (whole n off kind h) = rw (h a, h b, h c) (by_tests (plain (file kind n)) off opening (tests n))
  three-of (late n off r at e h) = rw (h a, h b, h c) (by_tests (no r at) off (refusing e) (tests n))

-- ---- what holds of a state holds behind a line, if it holds of all that go on, of 10 and of what the line itself is refused with

module _ (P : State → Type 0) (at-file : (x : Between) → P (at_file x)) (at-group : (x : InFile) → P (at_group x)) (at_item : (x : InGroup) → P (at_item x)) where
  moves-held : {sh : Sheet} {today k : ℕ} {t : Line} {st new : State} → Moves sh today k t st new → P new
  moves-held (heads _) = at-file _
  moves-held (opens _ _) = at-group _
  moves-held (begins _) = at_item _
  moves-held (more _ _) = at_item _
  moves-held (closes _ _ _) = at-group _
  moves-held (finishes _ _) = at-file _

  module _ (k : ℕ) (now : (n p : ℕ) → P (stop (Refused n k p))) (ten : (l p : ℕ) → P (stop (Refused 10 l p))) where
    broken-held : {sh : Sheet} {today size : ℕ} {t : Line} {ts : List Line} {st : State} {a : Answer} → Broken sh today size k st (t ∷ ts) a → P (stop a)
    broken-held (not-due _) = now _ _
    broken-held (full _ _) = now _ _
    broken-held (in_line _ _ _) = now _ _
    broken-held (total _ _ _) = ten _ _

    next-held : {sh : Sheet} {today size : ℕ} {t : Line} {ts : List Line} {st new : State} → Next sh today size k t ts st new → P st → P new
    next-held (on m) p = moves-held m
    next-held (halted b) p = broken-held b
    next-held stays p = p

-- no refusal 9 at a line up to i
abbrev pub NoNine : ℕ → State → Type 0
NoNine i at_first = Unit {0}
NoNine i (at_file x) = Unit {0}
NoNine i (at_group x) = Unit {0}
NoNine i (at_item x) = Unit {0}
NoNine i (stop (Refused n l p)) = n ≡ 9 → i < l
NoNine i (stop (Accepted h b w)) = Unit {0}

-- the first line has passed, and the end has not
abbrev pub Past : State → Type 0
Past at_first = ⊥
Past (at_file x) = Unit {0}
Past (at_group x) = Unit {0}
Past (at_item x) = Unit {0}
Past (stop (Refused n l p)) = Unit {0}
Past (stop (Accepted h b w)) = ⊥

module _ (sh : Sheet) (today k : ℕ) (t : Line) where
  pub no-nine-step : (i : ℕ) (st : State) → i < k → NoNine i st → NoNine i (judge.step sh today k t st)
  no-nine-step i st l q =
      next-held (NoNine i) (λ _. tt) (λ _. tt) (λ _. tt) k (λ _ _ _. l) (λ _ _ e. absurd (omega arith)) (next sh today 0 k t [] st) q

  pub past-step : (st : State) → Past st → Past (judge.step sh today k t st)
  past-step st q = next-held Past (λ _. tt) (λ _. tt) (λ _. tt) k (λ _ _. tt) (λ _ _. tt) (next sh today 0 k t [] st) q

  first_next : {new : State} → Next sh today 0 k t [] at_first new → Past new
  first_next (on m) = moves-held Past (λ _. tt) (λ _. tt) (λ _. tt) m
  first_next (halted _) = tt

  pub first_past : Past (judge.step sh today k t at_first)
  first_past = first_next (next sh today 0 k t [] at_first)

-- a quiet line where an account file is due
quiet-here : (sh : Sheet) (k at : ℕ) (x : Between) {r : Listed} → Quiet r → NoNine k (judge.on_said sh k at (counted r) (at_file x))
unfolding judge.on_said judge.meet counted on_file on_entry
quiet-here sh k at x opening = tt
quiet-here sh k at x (refusing e) = λ q. absurd (e q)

-- ---- numbers seen before all others change nothing but which numbers are allowed

-- the first line has passed
abbrev Begun : Tally → Type 0
Begun t_first = ⊥
Begun (t_file b) = Unit {0}
Begun (t_group b s) = Unit {0}
Begun (t_item b s o) = Unit {0}
Begun (t_stop a) = Unit {0}

map-entry : {A B : Type 0} (g : A → B) (x : Entry) (a : Header → A) (b : ℕ → ℕ → A) (c : Account → ℕ → ℕ → A) (d : Item → A) (e f : A)
    → g (on_entry x a b c d e f) ≡ on_entry x (λ h. g (a h)) (λ n m. g (b n m)) (λ p t u. g (c p t u)) (λ i. g (d i)) (g e) (g f)
unfolding on_entry
map-entry g (head h) a b c d e f = refl
map-entry g (file n m) a b c d e f = refl
map-entry g (group p t u) a b c d e f = refl
map-entry g (item i) a b c d e f = refl
map-entry g close_group a b c d e f = refl
map-entry g close_file a b c d e f = refl

module _ (u : List ℕ) (sh : Sheet) (k at : ℕ) where
  seed-closed : (b : Book) (s : Shelf) (o : Open) (v : ℕ) → seed u (numbers.closed sh b s o v) ≡ numbers.closed sh (numbers.seed_book u b) s o v
  unfolding numbers.closed seed
  seed-closed b s o v = map-pick (seed u) _ _ _

  seed-meet : (t : Saying ℕ) (c : Tally) → Begun c → seed u (numbers.meet sh k at t c) ≡ numbers.meet sh k at t (seed u c)
  unfolding numbers.meet seed on_file on_group on_item
  seed-meet t t_first q = absurd q
  seed-meet t (t_file b) q = map-entry (seed u) t.entry _ _ _ _ _ _
  seed-meet t (t_group b s) q = map-entry (seed u) t.entry _ _ _ _ _ _
  seed-meet t (t_item b s o) q = map-entry (seed u) t.entry _ _ _ _ _ _ ∙ rw (seed-closed b s o t.warnings)
  seed-meet t (t_stop a) q = refl

  seed-said : (r : Counted) (c : Tally) → Begun c → seed u (numbers.on_said sh k at r c) ≡ numbers.on_said sh k at r (seed u c)
  unfolding numbers.on_said seed
  seed-said (got t) c q = seed-meet t c q
  seed-said (no n off) c q = refl

two-picks : {A B : Type 0} (f : A → B) (a b : Bool) (x y z : A) → f (pick a (pick b x y) z) ≡ pick a (pick b (f x) (f y)) (f z)
two-picks f a b x y z = map-pick f a _ _ ∙ ap (λ e. pick a e (f z)) (map-pick f b x y)

module _ (u : List ℕ) (sh : Sheet) (today k : ℕ) (t : Line) where
  seed-group : (kind : Kind) (b : Book) (s : Shelf) → numbers.read sh today k t kind (seed u (t_group b s)) ≡ seed u (numbers.read sh today k t kind (t_group b s))
  unfolding numbers.read numbers.is_due numbers.is_full numbers.context_of seed
  seed-group kind b s = rw (two-picks (seed u), seed-said u sh k t.start _ (t_group b s) tt)

  seed-item : (kind : Kind) (b : Book) (s : Shelf) (o : Open)
      → numbers.read sh today k t kind (seed u (t_item b s o)) ≡ seed u (numbers.read sh today k t kind (t_item b s o))
  unfolding numbers.read numbers.is_due numbers.is_full numbers.context_of seed
  seed-item kind b s o = rw (two-picks (seed u), seed-said u sh k t.start _ (t_item b s o) tt)

  group-seeded : (kind : Kind) (x : InFile) → numbers.read sh today k t kind (seed u (abs (at_group x))) ≡ seed u (abs (judge.read sh today k t kind (at_group x)))
  unfolding abs
  group-seeded kind x = seed-group kind _ _ ∙ ap (seed u) (sym (reads sh today k t kind (at_group x)))

  item-seeded : (kind : Kind) (x : InGroup) → numbers.read sh today k t kind (seed u (abs (at_item x))) ≡ seed u (abs (judge.read sh today k t kind (at_item x)))
  unfolding abs
  item-seeded kind x = seed-item kind _ _ _ ∙ ap (seed u) (sym (reads sh today k t kind (at_item x)))

-- ---- the three ways: they agree; or line k has a number that the register marks, and is not refused with 9 as ever

pub data Threes (u : List ℕ) (k : ℕ) : State → State → Tally → Type 0 where
  same : {st : State} → Threes u k st st (seed u (abs st))
  split : {st : State} {p : ℕ} → NoNine k st → Threes u k st (stop (Refused 22 k p)) (t_stop (No 9 k p))

same-as : {u : List ℕ} {k : ℕ} {st : State} {c : Tally} → c ≡ seed u (abs st) → Threes u k st st c
same-as e = rw e same

same_stop : (u : List ℕ) (k n l p : ℕ) → Threes u k (stop (Refused n l p)) (stop (Refused n l p)) (t_stop (No n l p))
unfolding abs seed numbers.brief
same_stop u k n l p = same {st = stop (Refused n l p)}

begun-file : (x : Between) → Begun (abs (at_file x))
unfolding abs
begun-file x = tt

-- inside an account file the register is not looked at
module _ (reg : Register) (sh : Sheet) (today k : ℕ) (t : Line) where
  pub group-read : (kind : Kind) (x : InFile) → line_on reg sh today k t kind (at_group x) ≡ judge.read sh today k t kind (at_group x)
  unfolding line_on judge.read judge.is_due read_on pick
  group-read head_line x = refl
  group-read file_line x = refl
  group-read group_line x = refl
  group-read item_line x = refl
  group-read group_end x = refl
  group-read file_end x = refl

  pub item-read : (kind : Kind) (x : InGroup) → line_on reg sh today k t kind (at_item x) ≡ judge.read sh today k t kind (at_item x)
  unfolding line_on judge.read judge.is_due read_on pick
  item-read head_line x = refl
  item-read file_line x = refl
  item-read group_line x = refl
  item-read item_line x = refl
  item-read group_end x = refl
  item-read file_end x = refl

module _ (reg : Register) (sh : Sheet) (i : sh.interval ≡ true) (u : List ℕ) (is-used : (n : ℕ) → used reg n ≡ member n u) (today k : ℕ) (t : Line) where
  -- an account file is due, and its line was read
  file-said : (x : Between) {a b c : Listed} → Three a b c
      → Threes u k (judge.on_said sh k t.start (counted a) (at_file x)) (judge.on_said sh k t.start (counted b) (at_file x))
      (numbers.on_said sh k t.start (counted c) (seed u (abs (at_file x))))
  unfolding judge.on_said numbers.on_said counted
  file-said x (alike {r = r}) =
      same-as
      (sym (seed-said u sh k t.start (counted r) (abs (at_file x)) (begun-file x)) ∙ ap (seed u) (sym (saids sh k t.start (counted r) (at_file x))))
  file-said x (hit q) = split (quiet-here sh k t.start x q)

  file-three : (x : Between)
      → Three (read_file sh (number_test sh (after x.header (seen x.files))) t.bytes)
      (read_file sh (unused_test (used reg) (number_test sh (after x.header (seen x.files)))) t.bytes)
      (read_file sh (number_test sh (after x.header (seen x.files ++ u))) t.bytes)
  file-three x = three-of sh t.bytes _ _ _ (number-tests (used reg) sh i u is-used x.header (seen x.files)) (shape sh t.bytes)

  file-read : (kind : Kind) (x : Between)
      → Threes u k (judge.read sh today k t kind (at_file x)) (line_on reg sh today k t kind (at_file x))
      (numbers.read sh today k t kind (seed u (abs (at_file x))))
  unfolding judge.read line_on numbers.read judge.is_due numbers.is_due judge.is_full numbers.is_full judge.context_of numbers.context_of read_as read_on abs seed pick
  file-read head_line x = same_stop u k 3 k t.start
  file-read file_line x =
      by-test (leb 1000 (length x.files)) (λ e. simp e (same_stop u k 15 k t.start)) (λ e. simp e (file-said x (file-three x)))
  file-read group_line x = same_stop u k 3 k t.start
  file-read item_line x = same_stop u k 3 k t.start
  file-read group_end x = same_stop u k 3 k t.start
  file-read file_end x = same_stop u k 3 k t.start

  -- behind the first line
  pub three-steps : (st : State) → Past st → Threes u k (judge.step sh today k t st) (step_on reg sh today k t st) (numbers.step sh today k t (seed u (abs st)))
  unfolding judge.step step_on numbers.step abs seed
  three-steps at_first q = absurd q
  three-steps (at_file x) q = file-read (kind_of t.bytes) x
  three-steps (at_group x) q = rw (group-read reg sh today k t (kind_of t.bytes) x) (same-as (group-seeded u sh today k t (kind_of t.bytes) x))
  three-steps (at_item x) q = rw (item-read reg sh today k t (kind_of t.bytes) x) (same-as (item-seeded u sh today k t (kind_of t.bytes) x))
  three-steps (stop a) q = same {st = stop a}
