-- What a row leads to, by 20 and the state behind it; and a row that was read stands for what its words say. Assumes nothing.
use mathlib.Core.Path.{◌≡◌, sym}
use mathlib.Core.List.{List, ◌∷◌}
use Prim.Native.Nat.{ℕ, ◌+◌, ◌/◌}
use native.Mathlib.Omega.{arith}
use Rattle.sheet.specs.declared.Sheet.{Sheet}
use Rattle.paper.specs.Accounts.{Account, account}
use Rattle.paper.specs.Batch.{Header, Thing, a_file, a_group, an_item}
use Rattle.paper.specs.Rows.{thing_in}
use Rattle.paper.specs.Carried.{Place}
use Rattle.calendar.specs.declared.term.Banks.{Banks}
use Rattle.rows.specs.declared.walk.Before.{Before}
use Rattle.std.proofs.Common.{Option, Some, None, Result, Ok, Err}
use Rattle.rows.specs.declared.field.Field.{Field}
use Rattle.rows.specs.declared.field.Field.TheVariants.{Row}
use Rattle.rows.specs.declared.read.ItemRow.{ItemRow}
use Rattle.rows.specs.declared.read.Row as read
use Rattle.rows.specs.declared.read.Row.TheVariants as row
use Rattle.rows.specs.field.Numbers.{number_of}
use Rattle.rows.specs.read.Told.{told, item_of, told_item}
use Rattle.rows.specs.walk.Walks.{Walks}
use Rattle.rows.proofs.walk.Passed.{file-passed, item-told, walks-on}
use Rattle.fileline.specs.seen.Bits.{Holds}
use Rattle.survey.specs.declared.state.State.{State}
use Rattle.survey.specs.declared.state.Step.{Step}
use Rattle.survey.specs.declared.state.Step.TheVariants as step
use Rattle.survey.specs.state.Known.{Due, Known}
use Rattle.survey.specs.state.Low.{Low, LowStep}
use Rattle.survey.specs.state.Goes.{Goes}
use Rattle.survey.proofs.state.Judging.{resume-wrong, passed_on, goes-strange}
use Rattle.survey.specs.state.Row.{Behind}
use Rattle.survey.specs.step.Steps.{Steps, StepsRead}

-- ---- the row t, which is row k, by 20 leads to r

module _ (sh : Sheet) (k : ℕ) (st : State) (t : Thing) (r : Result Before Field) (walks : Walks st.before t r) where
  pub steps-wrong : (field : Field) → r ≡ Err field → (today from to all kind : ℕ) (banks : Banks) (seen : List ℕ) → Steps sh today from to all kind banks seen k st t (Err field)
  steps-wrong field e today from to all kind banks seen =
      record { low = tt; goes = λ h p f to known ts. resume-wrong sh today h p k st (t ∷ ts) (number_of field) (sym ((rw e at walks).same k ts)) }

-- ---- each kind of row, and the state behind it

module _ (sh : Sheet) (k : ℕ) (st next : State) (low : Low (k + 1) next) where
  pub steps-file : (kind number : ℕ) (r : Result Before Field) → Walks st.before (a_file kind number) r → (b : Before) → r ≡ Ok b → (from to : ℕ) (seen : List ℕ)
      → ((today : ℕ) (h : Header) (p : Place) → h.from ≡ from → h.to ≡ to → Holds seen p.seen → Behind sh today h p k st (a_file kind number) next)
      → (today all before : ℕ) (banks : Banks) → Steps sh today from to all before banks seen k st (a_file kind number) (Ok (step.File next kind (number / 1000)))
  steps-file kind number r w b e from to seen behind today all before banks =
      let passed = file-passed st.before b kind number (walks-on st.before _ r w b e) in
      record {
        low = (low, omega (arith, passed.small));
        goes = λ h p f t known. passed_on sh today h p k st (a_file kind number) next (behind today h p f t known.earlier);
      }

  pub steps-group : (kind date : ℕ) (payer : Account) (today : ℕ)
      → ((h : Header) (p : Place) → p.kind ≡ kind → Behind sh today h p k st (a_group date payer) next)
      → (from to all : ℕ) (banks : Banks) (seen : List ℕ) → Steps sh today from to all kind banks seen k st (a_group date payer) (Ok (step.Group next date))
  steps-group kind date payer today b from to all banks seen =
      record { low = low; goes = λ h p f t known. passed_on sh today h p k st (a_group date payer) next (b h p known.within) }

  pub steps-item : (texts : List ℕ) (x : ItemRow) (r : Result Before Field) → Walks st.before (told_item texts x) r → (b : Before) → r ≡ Ok b → (all : ℕ) (banks : Banks)
      → ((today : ℕ) (h : Header) (p : Place) → p.items ≡ all → Due sh today banks p.kind p.date → Behind sh today h p k st (an_item (item_of texts x)) next)
      → (today from to kind : ℕ) (seen : List ℕ) → Steps sh today from to all kind banks seen k st (told_item texts x) (Ok (step.Item next))
  steps-item texts x r w b e all banks behind today from to kind seen =
      rw (item-told st.before b texts x (walks-on st.before _ r w b e))
      (record { low = low; goes = λ h p f t known. passed_on sh today h p k st (an_item (item_of texts x)) next (behind today h p known.items known.due) })

pub ruleset stepping = (steps-wrong, steps-file, steps-group, steps-item)

-- an item's row that leads on is that of an item
pub item-walks : (b : Before) (texts : List ℕ) (x : ItemRow) (r : Result Before Field) → Walks b (told_item texts x) r → (next : Before) → r ≡ Ok next → Walks b (an_item (item_of texts x)) (Ok next)
item-walks b texts x r w next e =
    let on = walks-on b _ r w next e in
    rw (item-told b next texts x on) at on

-- ---- a row that was read as r, if it is of a known kind: s is what it leads to

module _ (texts : List ℕ) (r : Option read.Row) (o : read.Row) (known : r ≡ Some o) (sh : Sheet) (k : ℕ) (st : State) (s : Result Step Field) where
  pub row-file : (kind number : ℕ) → o ≡ row.File kind number → (from to : ℕ) (seen : List ℕ)
      → ((today all before : ℕ) (banks : Banks) → Steps sh today from to all before banks seen k st (a_file kind number) s)
      → (today all before : ℕ) (banks : Banks) → StepsRead sh today from to all before banks seen k st texts r s
  row-file kind number e from to seen p today all before banks = record { steps = rw (known, e) (p today all before banks) }

  pub row-group : (date prefix base : ℕ) → o ≡ row.Group date prefix base → (today kind : ℕ)
      → ((from to all : ℕ) (banks : Banks) (seen : List ℕ) → Steps sh today from to all kind banks seen k st (a_group date (account prefix base)) s)
      → (from to all : ℕ) (banks : Banks) (seen : List ℕ) → StepsRead sh today from to all kind banks seen k st texts r s
  row-group date prefix base e today kind p from to all banks seen = record { steps = rw (known, e) (p from to all banks seen) }

  pub row-item : (x : ItemRow) → o ≡ row.Item x → (all : ℕ) (banks : Banks)
      → ((today from to kind : ℕ) (seen : List ℕ) → Steps sh today from to all kind banks seen k st (told_item texts x) s)
      → (today from to kind : ℕ) (seen : List ℕ) → StepsRead sh today from to all kind banks seen k st texts r s
  row-item x e all banks p today from to kind seen = record { steps = rw (known, e) (p today from to kind seen) }

pub row-strange : (texts : List ℕ) (r : Option read.Row) → r ≡ None
    → (sh : Sheet) (today from to all kind : ℕ) (banks : Banks) (seen : List ℕ) (k : ℕ) (st : State) → StepsRead sh today from to all kind banks seen k st texts r (Err Row)
row-strange texts r e sh today from to all kind banks seen k st =
    record { steps = rw e (record { low = tt; goes = λ h p f t known. goes-strange sh today h p k st }) }

pub ruleset rows = (row-file, row-group, row-item, row-strange)

-- what it was read as is what its words say
pub stepped : {sh : Sheet} {today from to all kind : ℕ} {banks : Banks} {seen : List ℕ} {k : ℕ} {st : State} {texts : List ℕ} {r : Option read.Row} {s : Result Step Field}
    → StepsRead sh today from to all kind banks seen k st texts r s → (words : List ℕ) → ((t : List ℕ) → told t r ≡ thing_in t words)
    → LowStep k s × ((h : Header) (p : Place) → h.from ≡ from → h.to ≡ to → Known sh today all kind banks seen p → Goes sh today h p k st (thing_in texts words) s)
stepped {sh} {today} {from} {to} {all} {kind} {banks} {seen} {k} {st} {texts} {r} {s} p words read =
    let q : Steps sh today from to all kind banks seen k st (thing_in texts words) s = rw (read texts) at p.steps in
    (q.low, q.goes)
