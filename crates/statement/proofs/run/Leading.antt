-- What the next record leads to, and how the records end; rules for a search. Assumes nothing.
use mathlib.Core.Path.{◌≡◌, refl, ap}
use mathlib.Core.List.{List, [], ◌∷◌, ◌++◌}
use Prim.Native.Nat.{ℕ, suc, ◌+◌, ◌*◌, ◌≤◌}
use native.Mathlib.Omega.{arith}
use lib.ListN.{length, length-append}
use Rattle.std.specs.Prelude.{Option, Some, None, Result, Ok, Err}
use Rattle.refusal.specs.declared.Flaw.{Flaw}
use Rattle.refusal.specs.Numbers.{number_of}
use Rattle.paper.specs.Entries.{Said, got, no}
use Rattle.turnover.specs.Counts.{Roomy}
use Rattle.turnover.proofs.Laws.{room}
use Rattle.gpc.specs.Turnovers.{most12}
use Rattle.gpc.specs.Records.{Head, Movement, Record, head_is, movement_is, no_record}
use Rattle.gpc.specs.Statements.{Statement, statement, moves_of, Spots as Places, Judged as Answer, accepted, refused, on_said, with, Stage, top, within, judge_on}
use Rattle.record.specs.declared.HeadFields.{HeadFields}
use Rattle.record.specs.declared.MovementFields.{MovementFields}
use Rattle.record.specs.declared.Entry.{Entry}
use Rattle.record.specs.declared.Entry.TheVariants as entry
use Rattle.record.specs.Told.{Kept, head_of, movement_of, told_head, told_movement, SmallHead, Small}
use Rattle.statement.specs.declared.run.Open.{Open}
use Rattle.statement.specs.declared.run.Fault.{Fault}
use Rattle.statement.specs.run.Follows.{stray, AllSized, Follows, Few, Stood, Opens, Moves, Closes, Ends, fine, wrong, wrong_as, outcome, Steps, Leads, Finishes}

-- ---- what a stage gives

follows-sized : (o : Option Open) (st : Stage) → Follows o st → AllSized o
follows-sized None st f = tt
follows-sized (Some x) top f = absurd f
follows-sized (Some x) (within j h ms) f = f.sized

-- numbers of an open statement are small, whatever its stage
pub stood-sized : (o : Option Open) (k : ℕ) → Stood o k → AllSized o
stood-sized o k s = follows-sized o s.stage s.going.follows

moves-length : (ms : List Movement) → length (moves_of ms) ≡ length ms
unfolding moves_of
moves-length [] = refl
moves-length (m ∷ ms) = ap suc (moves-length ms)

roomy-at : (x : Open) (k : ℕ) (st : Stage) → Follows (Some x) st → Few k st → 130 * k + 130 ≤ 18446744073709551615 → Roomy x.turns
roomy-at x k top f n l = absurd f
roomy-at x k (within j h ms) f n l = room x.turns (moves_of ms) (omega (arith, moves-length ms, n, l)) f.counts

-- a file's records are few enough for one movement more
pub stood-roomy : (o : Option Open) (x : Open) (k : ℕ) → Stood o k → o ≡ Some x → 130 * k + 130 ≤ 18446744073709551615 → Roomy x.turns
stood-roomy o x k s q l = roomy-at x k s.stage (rw q at s.going.follows) s.going.few l

-- the numbers of what was found are small
pub head_small : (e : Entry) (r : Result HeadFields Flaw) (x : HeadFields) → Small e → e ≡ entry.Head r → r ≡ Ok x → SmallHead x
head_small e r x s q i = rw (q, i) at s

pub amount-small : (e : Entry) (r : Result MovementFields Flaw) (m : MovementFields) → Small e → e ≡ entry.Movement r → r ≡ Ok m → m.amount ≤ most12
amount-small e r m s q i = rw (q, i) at s

pub ruleset stages = (stood-sized, stood-roomy, head_small, amount-small)

-- ---- the record behind k others

module _ (p : Places) (o : Option Open) (k : ℕ) where
  strange-at : (st : Stage) (rs : List Record) → outcome (judge_on p k st (no_record ∷ rs)) ≡ wrong 50 k 0
  unfolding judge_on outcome
  strange-at top rs = refl
  strange-at (within j h ms) rs = refl

  module _ (e : Entry) where
    pub nothing-leads : (f : Fault) → e ≡ entry.Nothing → f ≡ stray k → Leads p o e k (Err f)
    nothing-leads f q i = rw (q, i) (record { by = λ κ st g rs. strange-at st rs })

    module _ (r : Result MovementFields Flaw) (q : e ≡ entry.Movement r) where
      -- a movement where no statement is open
      early-at : (m : Said Movement) (st : Stage) → Follows None st → (rs : List Record) → outcome (judge_on p k st (movement_is m ∷ rs)) ≡ wrong 50 k 0
      unfolding judge_on outcome
      early-at m top f rs = refl
      early-at m (within j h ms) f rs = absurd f

      pub early : (f : Fault) → o ≡ None → f ≡ stray k → Leads p o e k (Err f)
      early f i j = rw (q, i, j) (record { by = λ κ st g rs. early-at (told_movement κ r) st g.follows rs })

      -- .. where one is
      module _ (x : Open) (i : o ≡ Some x) where
        refused-at : (n off : ℕ) (st : Stage) → Follows (Some x) st → (rs : List Record) → outcome (judge_on p k st (movement_is (no n off) ∷ rs)) ≡ wrong n k off
        unfolding judge_on outcome on_said
        refused-at n off top f rs = absurd f
        refused-at n off (within j h ms) f rs = refl

        pub movement-refused : (f : Flaw) → r ≡ Err f → Leads p o e k (Err (record { behind = k; flaw = f }))
        movement-refused f j = rw (q, i, j) (record { by = λ κ st g rs. refused-at (number_of f.0) f.1 st g.follows rs })

        moved_at : (κ : Kept) (m : MovementFields) (y : Open) (st : Stage) → Follows (Some x) st → Few k st → Moves x m.code m.amount y
            → Steps p (movement_is (got (movement_of κ m))) k st (Ok y)
        unfolding judge_on on_said
        moved_at κ m y top f n v = absurd f
        moved_at κ m y (within j h ms) f n v =
            let one = movement_of κ m in (
              within j h (ms ++ (one ∷ [])),
              record { follows = v.by j h ms one refl refl f; few = omega (arith, length-append ms (one ∷ []), n) },
              λ rs. refl,
            )

        pub movement-leads : (m : MovementFields) (y : Open) → r ≡ Ok m → Moves x m.code m.amount y → Leads p o e k (Ok y)
        movement-leads m y j v = rw (q, i, j) (record { by = λ κ st g. moved_at κ m y st g.follows g.few v })

    -- ---- a head: c is what the statement that is open, if one is, comes to

    module _ (r : Result HeadFields Flaw) (q : e ≡ entry.Head r) (c : Result (Unit {0}) Fault) (v : Ends p o c) where
      over-at : (h : Said Head) (f : Fault) (st : Stage) → Closes p st (Err f) → (rs : List Record) → outcome (judge_on p k st (head_is h ∷ rs)) ≡ wrong_as f
      unfolding judge_on outcome on_said
      over-at h f top a rs = absurd a
      over-at h f (within j g ms) (a, b) rs = rw (a, b) refl

      pub head-over : (f : Fault) → c ≡ Err f → Leads p o e k (Err f)
      head-over f d = rw q (record { by = λ κ st g rs. over-at (told_head κ r) f st (rw d at (v.by st g.follows)) rs })

      module _ (u : Unit {0}) (d : c ≡ Ok u) where
        behind : (s : Statement) (a : Answer) → outcome (with s a) ≡ outcome a
        unfolding outcome with
        behind s (accepted ss) = refl
        behind s (refused n j off) = refl

        goes_at : (κ : Kept) (h : HeadFields) (y : Open) (st : Stage) → Closes p st (Ok u) → Opens k h y → Steps p (head_is (got (head_of κ h))) k st (Ok y)
        unfolding judge_on on_said
        goes_at κ h y top a w = (within k (head_of κ h) [], record { follows = w.by κ; few = omega arith }, λ rs. refl)
        goes_at κ h y (within j g ms) a w =
            (within k (head_of κ h) [], record { follows = w.by κ; few = omega arith }, λ rs. rw a (behind (statement g ms) _))

        pub head-goes : (h : HeadFields) (y : Open) → r ≡ Ok h → Opens k h y → Leads p o e k (Ok y)
        head-goes h y j w = rw (q, j) (record { by = λ κ st g. goes_at κ h y st (rw d at (v.by st g.follows)) w })

        stops_at : (n off : ℕ) (st : Stage) → Closes p st (Ok u) → (rs : List Record) → outcome (judge_on p k st (head_is (no n off) ∷ rs)) ≡ wrong n k off
        unfolding judge_on outcome on_said with
        stops_at n off top a rs = refl
        stops_at n off (within j g ms) a rs = rw a refl

        pub head-stops : (f : Flaw) → r ≡ Err f → Leads p o e k (Err (record { behind = k; flaw = f }))
        head-stops f j = rw (q, j) (record { by = λ κ st g rs. stops_at (number_of f.0) f.1 st (rw d at (v.by st g.follows)) rs })

pub ruleset leading = (nothing-leads, early, movement-refused, movement-leads, head-over, head-goes, head-stops)

-- ---- no record follows

module _ (p : Places) (o : Option Open) (k : ℕ) where
  missing_at : (st : Stage) → Follows None st → outcome (judge_on p k st []) ≡ wrong 50 k 0
  unfolding judge_on outcome
  missing_at top f = refl
  missing_at (within j h ms) f = absurd f

  pub missing : (f : Fault) → o ≡ None → f ≡ stray k → Finishes p o k (Err f)
  missing f q i = rw (q, i) (record { by = missing_at })

  module _ (x : Open) (q : o ≡ Some x) (c : Result (Unit {0}) Fault) (v : Ends p (Some x) c) where
    ends_at : (f : Fault) (st : Stage) → Follows (Some x) st → Closes p st (Err f) → outcome (judge_on p k st []) ≡ wrong_as f
    unfolding judge_on outcome on_said
    ends_at f top g a = absurd a
    ends_at f (within j h ms) g (a, b) = rw (a, b) refl

    pub last-over : (f : Fault) → c ≡ Err f → Finishes p o k (Err f)
    last-over f d = rw q (record { by = λ st g. ends_at f st g (rw d at (v.by st g)) })

    fine-at : (u : Unit {0}) (st : Stage) → Follows (Some x) st → Closes p st (Ok u) → outcome (judge_on p k st []) ≡ fine
    unfolding judge_on outcome on_said
    fine-at u top g a = absurd g
    fine-at u (within j h ms) g a = rw a refl

    pub last-fine : (u : Unit {0}) → c ≡ Ok u → Finishes p o k (Ok k)
    last-fine u d = rw q (record { by = λ st g. (refl, fine-at u st g (rw d at (v.by st g))) })

pub ruleset ending = (missing, last-over, last-fine)
