-- The judge refuses with 50 to 53, at a place that the records have. Assumes nothing.
use mathlib.Core.List.{List, [], ◌∷◌}
use Prim.Native.Nat.{ℕ, suc, ◌≤◌}
use native.Mathlib.Omega.{arith}
use Rattle.paper.specs.Entries.{Said}
use Rattle.gpc.specs.Records.{Head, Movement, Record, head_is, movement_is, no_record}
use Rattle.gpc.specs.Statements.{Statement, Spots, Judged, accepted, refused, on_said, with, Stage, top, within, judge_on, judge}
use Rattle.gpcexact.proofs.Closing.{Differs, debit, credit, balance, Closed, agree, differ, closing}
use Rattle.gpcexact.proofs.Fields.{Only, is_read, is_wrong}

-- `At k off`: the place `off` in the record behind k others is one to point at. In a whole record these are the places up to `most`.
module _ (At : ℕ → ℕ → Type 0) (most : ℕ) where
  abbrev pub Whole : ℕ → Type 0
  Whole k = (off : ℕ) → off ≤ most → At k off

  -- a record behind k others: its fields are read or refused with 51, at such a place
  pub data Fits (k : ℕ) : Record → Type 0 where
    a-head : {x : Said Head} → Whole k → Only most x → Fits k (head_is x)
    a-movement : {x : Said Movement} → Whole k → Only most x → Fits k (movement_is x)
    no-record : At k 0 → Fits k no_record

  abbrev pub AllFit : ℕ → List Record → Type 0
  AllFit k [] = Unit {0}
  AllFit k (r ∷ rs) = Fits k r × AllFit (suc k) rs

  -- an answer that names such a place
  pub data Named : Judged → Type 0 where
    accepts : {ss : List Statement} → Named (accepted ss)
    refuses : (n : ℕ) {k off : ℕ} → (50 ≤ n) × (n ≤ 53) → At k off → Named (refused n k off)

  pub named-refused : {n k off : ℕ} → Named (refused n k off) → (50 ≤ n) × (n ≤ 53) × At k off
  named-refused (refuses n (a, b) c) = (a, b, c)

  with-named : (s : Statement) {a : Judged} → Named a → Named (with s a)
  unfolding with
  with-named s accepts = accepts
  with-named s (refuses n b c) = refuses n b c

  -- a record's fields
  said-named : {A : Type 0} (k : ℕ) {x : Said A} {f : A → Judged} → Whole k → Only most x → ((a : A) → Named (f a)) → Named (on_said k x f)
  unfolding on_said
  said-named k w (is_read {a = a}) f = f a
  said-named k w (is_wrong {off = off} h) f = refuses 51 (omega arith) (w off h)

  module _ (p : Spots) (new : p.new ≤ most) (debits : p.debit ≤ most) (credits : p.credit ≤ most) where
    differs-named : (k : ℕ) {n off : ℕ} → Whole k → Differs p n off → Named (refused n k off)
    differs-named k w debit = refuses 52 (omega arith) (w p.debit debits)
    differs-named k w credit = refuses 52 (omega arith) (w p.credit credits)
    differs-named k w balance = refuses 53 (omega arith) (w p.new new)

    -- a statement's sums
    closed-named : (k : ℕ) {h : Head} {ms : List Movement} {x : Said Statement} {f : Statement → Judged} → Whole k → Closed p h ms x
        → ((s : Statement) → Named (f s)) → Named (on_said k x f)
    unfolding on_said
    closed-named k w (agree _) f = f _
    closed-named k w (differ d) f = differs-named k w d

    -- before the first record, its place is one to point at; within a statement, those of its head are
    abbrev Stands : ℕ → Stage → Type 0
    Stands k top = At k 0
    Stands k (within j h ms) = Whole j

    named-on : (rs : List Record) (k : ℕ) (st : Stage) → Stands k st → AllFit k rs → Named (judge_on p k st rs)
    unfolding judge_on
    named-on [] k top a fits = refuses 50 (omega arith) a
    named-on (no_record ∷ rs) k top a fits = refuses 50 (omega arith) a
    named-on (movement_is x ∷ rs) k top a fits = refuses 50 (omega arith) a
    named-on (head_is x ∷ rs) k top a (a-head w o, fits) = said-named k w o λ h. named-on rs (suc k) (within k h []) w fits
    named-on [] k (within j h ms) v fits = closed-named j v (closing p h ms) λ s. accepts
    named-on (no_record ∷ rs) k (within j h ms) v (no-record a, fits) = refuses 50 (omega arith) a
    named-on (movement_is x ∷ rs) k (within j h ms) v (a-movement w o, fits) = said-named k w o λ m. named-on rs (suc k) (within j h _) v fits
    named-on (head_is x ∷ rs) k (within j h ms) v (a-head w o, fits) =
        closed-named j v (closing p h ms) λ s. with-named s (said-named k w o λ g. named-on rs (suc k) (within k g []) w fits)

    pub judge-named : (rs : List Record) → At 0 0 → AllFit 0 rs → Named (judge p rs)
    unfolding judge
    judge-named rs a fits = named-on rs 0 top a fits
