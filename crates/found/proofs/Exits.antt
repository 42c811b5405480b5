-- The answers of those who say what is found, with what the code knows at each. Assumes nothing.
use Rattle.std.proofs.Common.{◌≡◌, ℕ, ◌+◌, ◌-◌, ◌<◌, ◌≤◌, Bool, true, false, List, length, take, drop, sym, ◌∙◌, arith, length-drop, length-take, length-take-le, le-ltb, lt-ltb}
use Rattle.base.specs.Seek.{seek}
use Rattle.base.proofs.Cases.{pick_true, pick-false}
use Rattle.base.proofs.Seek.{seek-le}
use Rattle.sheet.specs.declared.Sheet.{Sheet}
use Rattle.paper.specs.Bytes.{space, field_of}
use Rattle.paper.specs.Batch.{Header, most14}
use Rattle.paper.specs.Entries.{kind_of}
use Rattle.paper.specs.Judge.{State}
use Rattle.scan.specs.declared.kind.LineKind.{LineKind}
use Rattle.scan.specs.kind.Told.{told}
use Rattle.tally.specs.Tally.{is_due, is_full}
use Rattle.judge.specs.declared.group.Open.{Open}
use Rattle.judge.specs.group.Stands.{open_of, line_in}
use Rattle.why.specs.declared.Finding.{Finding}
use Rattle.why.specs.Names.{group_total, whole_line, field_number}
use Rattle.why.specs.Finding.{finding}
use Rattle.why.specs.Finding as why
use Rattle.course.specs.declared.Course.{Course}
use Rattle.course.specs.declared.Stage.{Stage}
use Rattle.course.specs.Stands.{numbers_of, Stands}
use Rattle.found.specs.Numbers.{due_cause, not_due, early, full_cause, full_limit, too_many, total_found, blame}
use Rattle.found.specs.Bearings.{Faults}
use Rattle.found.proofs.Numbers.{earlies, blames}

-- ---- the field at a byte

module _ (f : List ℕ) (byte : ℕ) where
  pub field-there : (end : ℕ) → end ≡ byte + seek space (drop byte f) → end - byte ≡ length (field_of (drop byte f))
  field-there end e =
      let s = drop byte f in
      let n : length (field_of s) ≡ seek space s = length-take-le (seek space s) s (seek-le space s) in
      omega arith

  pub field-none : length f < byte → 0 ≡ length (field_of (drop byte f))
  field-none h =
      let s = drop byte f in
      omega (arith, length-take (seek space s) s, length-drop byte f)

pub ruleset fields = (field-there, field-none)

-- ---- the total

module _ (f : List ℕ) (x : Open) (n : ℕ) (g : n ≡ length (field_of (drop x.byte f))) (r : Finding) where
  pub total-over : most14 < x.sum → r ≡ finding 10 101 x.line x.byte n group_total 0 most14 → r ≡ total_found f (open_of x)
  unfolding total_found
  total-over h e = e ∙ rw g (sym (pick_true _ _ (lt-ltb most14 x.sum h)))

  pub total-other : x.sum ≤ most14 → r ≡ finding 10 100 x.line x.byte n group_total x.sum x.sum → r ≡ total_found f (open_of x)
  unfolding total_found
  total-other h e = e ∙ rw g (sym (pick-false _ _ (le-ltb most14 x.sum h)))

pub ruleset totals = (total-over, total-other)

-- ---- the line from `at` to `stop`, whole

module _ (s : Stage) (at stop k : ℕ) (p : at ≤ stop) (f : List ℕ) (q : stop ≤ length f) (r : Finding) (why : ℕ) (h : Header) (l : List ℕ) where
  long : length (take (stop - at) (drop at f)) ≡ stop - at
  long = omega (arith, length-take (stop - at) (drop at f), length-drop at f)

  pub whole-not-due : r ≡ finding 3 why k at (stop - at) whole_line 0 0 → ((h : Header) (l : List ℕ) → why ≡ due_cause (numbers_of h l s))
      → r ≡ not_due k (line_in f at stop) (numbers_of h l s)
  unfolding not_due
  whole-not-due i e = i ∙ rw (long, e h l)

  pub whole-full : (sh : Sheet) (most : ℕ) → r ≡ finding 15 why k at (stop - at) whole_line 0 most → ((h : Header) (l : List ℕ) → why ≡ full_cause (numbers_of h l s))
      → ((h : Header) (l : List ℕ) → most ≡ full_limit sh (numbers_of h l s)) → r ≡ too_many sh k (line_in f at stop) (numbers_of h l s)
  unfolding too_many
  whole-full sh most i e g = i ∙ rw (long, e h l, g h l)

pub ruleset wholes = (whole-not-due, whole-full)

-- ---- what is found

pub at-end : (x : Course) (n k due : ℕ) → ((h : Header) (l : List ℕ) → due ≡ due_cause (numbers_of h l x.stage)) → (st : State) (words : List ℕ) → Stands x words st
    → ◌≡◌ {A = Finding} (record { number = 3; cause = due; line = k; byte = n; length = 0; field = 0; least = 0; most = 0 }) (why.early n k st)
unfolding early field_number
at-end x n k due e st words s = rw (earlies n k st, s.numbers) (rw (e s.header s.earlier))

-- m is the line's kind, d whether it is due
module _
    (sh : Sheet) (today : ℕ) (f : List ℕ) (at stop k : ℕ) (q : stop ≤ length f) (x : Course) (m : LineKind) (g : told m ≡ kind_of (take (stop - at) (drop at f))) (d : Bool)
    (due : (h : Header) (l : List ℕ) → d ≡ is_due (numbers_of h l x.stage) (told m)) (r : Finding) (words : List ℕ) (st : State) (s : Stands x words st)
  where
    abbrev Found : Type 0
    Found = r ≡ why.blame sh today f k (line_in f at stop) (kind_of (take (stop - at) (drop at f))) st

    -- from the state to its numbers
    by-numbers : r ≡ blame sh today f k (line_in f at stop) (kind_of (take (stop - at) (drop at f))) (numbers_of s.header s.earlier x.stage) → Found
    by-numbers e = e ∙ sym (rw s.numbers at (blames sh today f k (line_in f at stop) (kind_of (take (stop - at) (drop at f))) st))

    is-due : d ≡ is_due (numbers_of s.header s.earlier x.stage) (kind_of (take (stop - at) (drop at f)))
    is-due = rw g at due s.header s.earlier

    pub other-due : d ≡ false → ((f : List ℕ) → stop ≤ length f → (h : Header) (l : List ℕ) → r ≡ not_due k (line_in f at stop) (numbers_of h l x.stage)) → Found
    unfolding blame
    other-due n e = by-numbers (e f q s.header s.earlier ∙ sym (pick-false _ _ (sym is-due ∙ n)))

    module _ (y : d ≡ true) (b : Bool) (full : (h : Header) (l : List ℕ) → b ≡ is_full sh (numbers_of h l x.stage) (told m)) where
      is-full : b ≡ is_full sh (numbers_of s.header s.earlier x.stage) (kind_of (take (stop - at) (drop at f)))
      is-full = rw g at full s.header s.earlier

      pub one_more : b ≡ true → ((f : List ℕ) → stop ≤ length f → (h : Header) (l : List ℕ) → r ≡ too_many sh k (line_in f at stop) (numbers_of h l x.stage)) → Found
      unfolding blame
      one_more z e = by-numbers (e f q s.header s.earlier ∙ sym (pick_true _ _ (sym is-due ∙ y) ∙ pick_true _ _ (sym is-full ∙ z)))

      pub in_line : b ≡ false → Faults sh today f at stop k x words r → Found
      unfolding blame
      in_line z e =
          by-numbers
          (e s.header s.earlier s.first s.last s.holds (sym is-due ∙ y) ∙ sym (pick_true _ _ (sym is-due ∙ y) ∙ pick-false _ _ (sym is-full ∙ z)))

pub ruleset blamed = (other-due, one_more, in_line)
