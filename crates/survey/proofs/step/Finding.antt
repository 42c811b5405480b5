-- What was found for 21 behind a row: the first fault stays, else the row's own is found. Assumes nothing.
use mathlib.Core.Path.{◌≡◌, refl, sym, ap, ◌∙◌}
use mathlib.Core.Bool.{true, false}
use mathlib.Core.List.{List}
use Prim.Native.Nat.{ℕ, ◌≤◌, ◌<◌}
use native.Mathlib.Omega.{arith}
use lib.Dec.{ltb, eqb}
use Rattle.sheet.specs.declared.Sheet.{Sheet}
use Rattle.sheet.specs.declared.Limits.{Limits}
use Rattle.sheet.specs.Sheets.{kind_allowed, LimitsOf}
use Rattle.paper.specs.Days.{due_allowed}
use Rattle.paper.specs.Terms.{day_here, bank_due}
use Rattle.paper.specs.Accounts.{Account}
use Rattle.paper.specs.FileLine.{number_allowed}
use Rattle.paper.specs.Batch.{Item, Header, Thing, a_file, a_group, an_item}
use Rattle.paper.specs.Proper.{Verdict, wrong, check}
use Rattle.paper.specs.Carried.{Place, item_carried, rows_carried}
use Rattle.calendar.specs.declared.term.Banks.{Banks}
use Rattle.calendar.specs.declared.term.Banks.TheVariants as which
use Rattle.calendar.specs.term.Allows.{allows}
use Rattle.std.proofs.Common.{Option, Some, None, Result}
use Rattle.rows.specs.declared.field.Field.{Field}
use Rattle.rows.specs.field.Numbers.{numbered}
use Rattle.rows.specs.read.After.{after_number, after}
use Rattle.rows.proofs.read.Fields.{passes, fails, below, beyond}
use Rattle.fileline.specs.seen.Bits.{Holds}
use Rattle.survey.specs.declared.state.Found.{Found}
use Rattle.survey.specs.declared.state.State.{State}
use Rattle.survey.specs.state.Stands.{kept, Tests}
use Rattle.survey.specs.state.Known.{Due}
use Rattle.survey.specs.state.Row.{Finds}
use Rattle.survey.proofs.state.Small.{kept-none, kept_at}

-- an item: the items of the whole file, by the limits that the sheet gave
module _ (sh : Sheet) (l : Limits) (of : LimitsOf sh l) (all k : ℕ) (v rest : Verdict) where
  pub items-few : all < l.items → v ≡ rest → v ≡ check k 0 (ltb all sh.fileitems) rest
  items-few g e = below k 0 v rest all sh.fileitems (omega (arith, of.items)) e

  pub items-many : l.items ≤ all → v ≡ wrong k 0 → v ≡ check k 0 (ltb all sh.fileitems) rest
  items-many g e = beyond k 0 v rest all sh.fileitems (omega (arith, of.items)) e

-- .. and then its payee bank
pub ruleset fitting = (items-few, items-many, passes, fails)

module _ (banks : Banks) (own bank : ℕ) where
  pub any-allowed : banks ≡ which.Any → true ≡ allows banks own bank
  any-allowed e = rw e

  pub own-allowed : banks ≡ which.Own → (code : ℕ) → code ≡ own → eqb bank code ≡ allows banks own bank
  own-allowed e code c = rw (e, c)

  pub none_allowed : banks ≡ which.Nobody → false ≡ allows banks own bank
  none_allowed e = rw e

pub ruleset allowing = (any-allowed, own-allowed, none_allowed)

module _ (sh : Sheet) (k : ℕ) (st : State) where
  -- what was found before stays
  pub stays : (w : Found) → st.found ≡ Some w → (today : ℕ) (h : Header) (p : Place) (t : Thing) → Finds sh today h p k st t (Some w)
  stays w e today h p t = record { same = λ ts. kept_at (Some w) _ w refl ∙ sym (kept_at st.found _ w e) }

  -- nothing was found before; row k is judged by the test d, which by numbers is n and finds g
  module _ (none : st.found ≡ None) (d : Result (Unit {0}) Field) (n : Result (Unit {0}) ℕ) (told : n ≡ numbered d) (g : Option Found) (tests : Tests k n g) where
    finds : (v : Verdict) → kept g v ≡ after k d v
    finds v = tests.same v ∙ ap (λ (c : Result (Unit {0}) ℕ). after_number k c v) told

    pub file-finds : (from to : ℕ) (seen : List ℕ) (kind number : ℕ)
        → ((h : Header) (l : List ℕ) → h.from ≡ from → h.to ≡ to → Holds seen l → (k : ℕ) (rest : Verdict)
        → after k d rest ≡ check k 1 (kind_allowed sh kind) (check k 2 (number_allowed sh.interval h l number) rest))
        → (today : ℕ) (h : Header) (p : Place) → h.from ≡ from → h.to ≡ to → Holds seen p.seen → Finds sh today h p k st (a_file kind number) g
    unfolding rows_carried
    file-finds from to seen kind number carried today h p f t holds =
        record { same = λ ts. finds _ ∙ (carried h p.seen f t holds k _ ∙ sym (kept-none st.found _ none)) }

    pub group-finds : (today kind date : ℕ)
        → ((k : ℕ) (rest : Verdict) → after k d rest ≡ check k 1 (due_allowed (day_here sh kind) sh.early sh.ahead today date) rest)
        → (payer : Account) (h : Header) (p : Place) → p.kind ≡ kind → Finds sh today h p k st (a_group date payer) g
    unfolding rows_carried
    group-finds today kind date carried payer h p e =
        let here : (k : ℕ) (rest : Verdict) → after k d rest ≡ check k 1 (due_allowed (day_here sh p.kind) sh.early sh.ahead today date) rest = rw e carried in
        record { same = λ ts. finds _ ∙ (here k _ ∙ sym (kept-none st.found _ none)) }

    pub item-finds : (all : ℕ) (banks : Banks) (x : Item)
        → ((k : ℕ) (rest : Verdict)
        → after k d rest ≡ check k 0 (ltb all sh.fileitems) (check k 5 (allows banks sh.bank x.bank) (item_carried sh k x rest)))
        → (today : ℕ) (h : Header) (p : Place) → p.items ≡ all → Due sh today banks p.kind p.date → Finds sh today h p k st (an_item x) g
    unfolding rows_carried
    item-finds all banks x carried today h p e due =
        let here : (k : ℕ) (rest : Verdict)
        → after k d rest ≡ check k 0 (ltb p.items sh.fileitems) (check k 5 (bank_due sh today p.kind p.date x.bank) (item_carried sh k x rest)) = rw (e, ← due x.bank) carried in
        record { same = λ ts. finds _ ∙ (here k _ ∙ sym (kept-none st.found _ none)) }

pub ruleset finding = (file-finds, group-finds, item-finds)
