-- Which refusal a file gets against a register: 23 and 22 exactly where they are declared to be the first fault, any other as ever. Assumes nothing.
use mathlib.Core.Path.{◌≡◌, refl, sym, ap, ◌∙◌}
use mathlib.Core.Bool.{true}
use mathlib.Core.List.{List, [], ◌∷◌}
use mathlib.Core.Logic.{◌↔◌}
use Prim.Native.Nat.{ℕ, suc}
use native.Mathlib.Omega.{arith}
use lib.ListN.{length}
use Rattle.base.proofs.Cases.{pick_true}
use Rattle.sheet.specs.declared.Sheet.{Sheet}
use Rattle.paper.specs.Lines.{Line, lines_of}
use Rattle.paper.specs.Judge.{Answer, Refused, rev_on, State, at_first, at_file, stop, judge}
use Rattle.paper.specs.FirstFault.{Lawful, nothing, header, opens as opened, begins as begun, more as added, closes as closed, finishes as finished}
use Rattle.exact.specs.named.Numbers.{Judged}
use Rattle.exact.proofs.Told.{told-line, kind-item}
use Rattle.exact.proofs.Moves.{Moves, heads, opens, begins, more, closes, finishes, moves-step}
use Rattle.exact.proofs.named.Main.{judge-named}
use Rattle.register.specs.Register.{Register}
use Rattle.against.specs.Against.{step_on, run_on, judge_on}
use Rattle.against.specs.FirstUsed.{OtherDate, UsedNumber}
use Rattle.against.proofs.Way.{Clear, clear-back, Way, kept, dated, struck, date-strikes, number-strikes, way}
use Rattle.against.proofs.Outcome.{stopped-on, Outcome, alike, another, marked, outcome}

placed : {n l k p q : ℕ} → l ≡ k → p ≡ q → Refused n k q ≡ Refused n l p
placed e g = rw (e, g)

-- ---- lawful lines end with one that moves on what those before it leave

record Last (sh : Sheet) (today : ℕ) (t : Line) (ts : List Line) (new : State) : Type 0 where
  state : State
  lawful : Lawful sh today ts state
  moves : Moves sh today (suc (length ts)) t state new

module _ (sh : Sheet) (today : ℕ) where
  last : {t : Line} {ts : List Line} {new : State} → Lawful sh today (t ∷ ts) new → Last sh today t ts new
  last (header l q) = record { state = _; lawful = l; moves = heads q }
  last (opened l few q) = record { state = _; lawful = l; moves = opens few q }
  last (begun l q) = record { state = _; lawful = l; moves = begins q }
  last (added {t = t} l free (p, q)) =
      record { state = _; lawful = l; moves = more (rw (kind-item (told-line sh today _ t.bytes _ q)) at free) (p, q) }
  last (closed l some q good) = record { state = _; lawful = l; moves = closes some q good }
  last (finished l some q) = record { state = _; lawful = l; moves = finishes some q }

module _ (reg : Register) (sh : Sheet) (i : sh.interval ≡ true) (headed : sh.header ≡ true) (today : ℕ) where
  -- ---- lawful lines with which the register is content lead where they lead as ever

  moved : {k : ℕ} {t : Line} {st new : State} → Way reg sh today k t st → Moves sh today k t st new → Clear reg new → step_on reg sh today k t st ≡ new
  moved (kept e _) m c = e ∙ moves-step sh today _ _ m
  moved {new = new} (dated _ _ _ bad) m c = absurd (bad new m c)
  moved {new = new} (struck _ _ _ _ _ bad) m c = absurd (bad new m c)

  module _ (size : ℕ) where
    step-on : (k : ℕ) (t : Line) (after : List Line) (st new : State) → step_on reg sh today k t st ≡ new
        → run_on reg sh today size k (t ∷ after) st ≡ run_on reg sh today size (suc k) after new
    unfolding run_on
    step-on k t after st new e = ap (λ s. run_on reg sh today size (suc k) after s) e

    stops-on : (k : ℕ) (t : Line) (after : List Line) (st : State) (a : Answer) → step_on reg sh today k t st ≡ stop a
        → run_on reg sh today size k (t ∷ after) st ≡ a
    stops-on k t after st a e = step-on k t after st (stop a) e ∙ stopped-on reg sh today size (suc k) after a

    reached-none : {st : State} → Lawful sh today [] st → (after : List Line)
        → run_on reg sh today size 1 after at_first ≡ run_on reg sh today size 1 after st
    reached-none nothing after = refl

    reached : (ts : List Line) (st : State) → Lawful sh today ts st → Clear reg st → (after : List Line)
        → run_on reg sh today size 1 (rev_on ts after) at_first ≡ run_on reg sh today size (suc (length ts)) after st
    reached [] st l c after = reached-none l after
    reached (t ∷ ts) st l c after =
        let o = last sh today l in
        let d = clear-back reg o.moves c in
        reached ts o.state o.lawful d (t ∷ after)
        ∙ step-on _ t after o.state st (moved (way reg sh today _ t headed o.state d) o.moves c)

  -- ---- the claims

  module _ (f : List ℕ) where
    split-lines : {ts : List Line} → lines_of 0 f ≡ ts → judge_on reg sh today f ≡ run_on reg sh today (length f) 1 ts at_first
    unfolding judge_on
    split-lines e = pick_true _ _ i ∙ ap (λ ts. run_on reg sh today (length f) 1 ts at_first) e

    -- document 01 refuses with 3 to 15
    abbrev Named : Answer → Type 0
    Named a = (n l p : ℕ) → a ≡ Refused n l p → Judged n

    other-only : {a o : Answer} → Named a → Outcome reg sh today f a o → (l p : ℕ) → o ≡ Refused 23 l p → OtherDate reg f l p
    other-only named (alike _) l p e = absurd (omega (arith, (named 23 l p e).1))
    other-only named (another {l = k} {p = q} o _) l p e = let y : k ≡ l = cc in let z : q ≡ p = cc in rw (y, z) at o
    other-only named (marked _ _) l p e = absurd (let y : ◌≡◌ {A = ℕ} 22 23 = cc in omega arith)

    used-only : {a o : Answer} → Named a → Outcome reg sh today f a o → (l p : ℕ) → o ≡ Refused 22 l p → UsedNumber reg sh today f l p
    used-only named (alike _) l p e = absurd (omega (arith, (named 22 l p e).1))
    used-only named (another _ _) l p e = absurd (let y : ◌≡◌ {A = ℕ} 23 22 = cc in omega arith)
    used-only named (marked {l = k} {p = q} o _) l p e = let y : k ≡ l = cc in let z : q ≡ p = cc in rw (y, z) at o

    no_other : {a o : Answer} → Outcome reg sh today f a o → (n l p : ℕ) → o ≡ Refused n l p → (n ≡ 22 → ⊥) → (n ≡ 23 → ⊥) → a ≡ Refused n l p
    no_other (alike _) n l p e u d = e
    no_other (another _ _) n l p e u d = absurd (d (let y : 23 ≡ n = cc in sym y))
    no_other (marked _ _) n l p e u d = absurd (u (let y : 22 ≡ n = cc in sym y))

    named : Named (judge sh today f)
    named n l p e = judge-named sh today f n l p e

    -- 23 is given exactly where the header's date can be read and is not the register's,
    pub other-date : (l p : ℕ) → judge_on reg sh today f ≡ Refused 23 l p ↔ OtherDate reg f l p
    other-date l p = (
      other-only named (outcome reg sh today f headed i) l p,
      λ o. split-lines o.split
          ∙ stops-on (length f) 1 o.line o.after at_first _ (date-strikes reg sh today 1 o.line o.date o.kind o.read o.other)
          ∙ placed o.place.0 o.place.1,
    )

    -- 22 exactly where the lines before break no rule and the register marks the number of an account file that document 01 allows,
    pub used-number : (l p : ℕ) → judge_on reg sh today f ≡ Refused 22 l p ↔ UsedNumber reg sh today f l p
    used-number l p = (
      used-only named (outcome reg sh today f headed i) l p,
      λ u. split-lines u.split
          ∙ reached (length f) u.before (at_file u.so_far) u.lawful (u.day, u.unused) (u.line ∷ u.after)
          ∙ stops-on (length f) _ u.line u.after (at_file u.so_far) _
          (number-strikes reg sh today _ u.line u.so_far u.number u.off u.room u.kind u.reaches u.allowed u.marked)
          ∙ placed u.place.0 u.place.1,
    )

    -- and any other is document 01's.
    pub as-ever : (n l p : ℕ) → judge_on reg sh today f ≡ Refused n l p → (n ≡ 22 → ⊥) → (n ≡ 23 → ⊥) → judge sh today f ≡ Refused n l p
    as-ever n l p e u d = no_other (outcome reg sh today f headed i) n l p e u d
