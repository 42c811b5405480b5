-- What the fields of the line give, for `search`: s is the line, and n what a field's reader answered. Assumes nothing.
use mathlib.Core.Path.{◌≡◌, sym, ap, ◌∙◌}
use mathlib.Core.Bool.{Bool, true, false}
use mathlib.Core.List.{List}
use Prim.Native.Nat.{ℕ, ◌^◌, ◌<◌}
use Rattle.std.proofs.Common.{Result, Ok}
use lib.Dec.{leb}
use Rattle.base.proofs.Cases.{pick_true, pick-false}
use Rattle.refusal.specs.declared.Refusal.{Refusal}
use Rattle.refusal.specs.declared.Flaw.{Flaw}
use Rattle.refusal.specs.Placed.{placed}
use Rattle.refusal.proofs.Places.{was-ok}
use Rattle.sheet.specs.declared.Sheet.{Sheet}
use Rattle.sheet.specs.declared.Limits.{Limits}
use Rattle.sheet.specs.Sheets.{LimitsOf}
use Rattle.paper.specs.Warnings.{past_day}
use Rattle.paper.specs.Accounts.{Account}
use Rattle.paper.specs.Amounts.{read_total}
use Rattle.paper.specs.Read.{Field}
use Rattle.paper.specs.Days.{read_due, real_day, due_warnings}
use Rattle.paper.specs.Entries.{group, total_at, Counted, said, counted, field, gap, line_end}
use Rattle.paper.specs.GroupLine.{space_count, has_payer, total_and_date}
use Rattle.paper.proofs.Passing.{field-passes, gap-passes, end-passes, counted-keeps, notices-length}
use Rattle.amount.proofs.Sound.{total-sound}
use Rattle.calendar.proofs.Sound.{due-sound}
use Rattle.numeral.specs.field.At.{field_at}
use Rattle.numeral.specs.declared.field.Run.{Run}
use Rattle.numeral.specs.field.Told as number
use Rattle.numeral.proofs.field.Steps.{found-value, steps}

-- ---- whether the payer's field stands in the line

pub payer-counted : (always : Bool) (s : List ℕ) (n : ℕ) → n ≡ space_count s → always ≡ false → leb 3 n ≡ has_payer always s
unfolding has_payer
payer-counted always s n g h = rw g (sym (pick-false _ _ h))

pub payer-third : (always : Bool) (s : List ℕ) (r : Bool) → r ≡ leb 3 (space_count s) → always ≡ false → r ≡ has_payer always s
unfolding has_payer
payer-third always s r g h = g ∙ sym (pick-false _ _ h)

pub payer-always : (always : Bool) (s : List ℕ) → always ≡ true → true ≡ has_payer always s
unfolding has_payer
payer-always always s h = sym (pick_true _ _ h)

-- ---- what total and date are

-- m is what a reader answered, with the place p
module _ (s : List ℕ) (at : ℕ) (n : Result Run Refusal) (p : ℕ) (m : Result Run Flaw) (h : m ≡ placed n p) (d : Run) (f : m ≡ Ok d) where
  was : n ≡ Ok d
  was = was-ok n p d (sym h ∙ f)

  pub total_low : (may : Bool) → number.told n ≡ field_at (read_total may) s at → d.value < 10 ^ 14
  total_low may g = total-sound may _ d.value (found-value (read_total may) s at d.value d.end (rw was at g))

  pub due-real : (long here early : Bool) (ahead today : ℕ) → number.told n ≡ field_at (read_due long here early ahead today) s at → real_day d.value ≡ true
  due-real long here early ahead today g = (due-sound long _ here early ahead today d.value (found-value (read_due long here early ahead today) s at d.value d.end (rw was at g))).0

-- a due day within the limit that the sheet gave
pub due-limit : (sh : Sheet) (l : Limits) → LimitsOf sh l → (long here : Bool) (today : ℕ) (s : List ℕ) (at : ℕ) (n : Result Run Refusal)
    → number.told n ≡ field_at (read_due long here sh.early l.ahead today) s at → number.told n ≡ field_at (read_due long here sh.early sh.ahead today) s at
due-limit sh l of long here today s at n g = rw of.ahead at g

-- ---- what the line says, with the warnings w that were counted

pub step-group : (here warns : Bool) (today date w : ℕ) → w ≡ due_warnings here warns today date → (payer : Account) (total at : ℕ)
    → said (group payer total date) w (total_at at) ≡ said (group payer total date) (due_warnings here warns today date) (total_at at)
step-group here warns today date w g payer total at = rw g

-- its warnings counted at the end are counted
module _ (sh : Sheet) (today : ℕ) (here : Bool) (payer : Account) (at : ℕ) (s : List ℕ) where
  abbrev read-due : List ℕ → Field ℕ
  read-due = read_due sh.longdate here sh.early sh.ahead today

  abbrev ending : ℕ → ℕ → Counted
  ending total date = said (group payer total date) (due_warnings here sh.warnpast today date) (total_at at)

  pub total-counted : (r : Counted)
      → r ≡ (field (read_total sh.comma) at s λ total a1 s1. gap a1 s1 λ a2 s2. field read-due a2 s2 λ date a3 s3. line_end a3 s3 (ending total date))
      → r ≡ counted (total_and_date sh today here payer at s)
  unfolding total_and_date counted
  total-counted r q =
      q
      ∙ sym
      (field-passes counted counted-keeps (read_total sh.comma) at s _ _ λ total a1 s1.
      gap-passes counted counted-keeps a1 s1 _ _ λ a2 s2.
      field-passes counted counted-keeps read-due a2 s2 _ _ λ date a3 s3.
      end-passes counted counted-keeps a3 s3 _ _
      (ap (λ (n : ℕ). said (group payer total date) n (total_at at)) (notices-length past_day a2 (due_warnings here sh.warnpast today date))))

pub ruleset payers = (payer-counted, payer-third, payer-always)

pub ruleset groups = (due-limit, step-group, steps)

pub ruleset bounds = (total_low, due-real)
