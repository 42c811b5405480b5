-- The state behind a row that leads to `next`: f is what was found, n are the bytes so far. Assumes nothing.
use mathlib.Core.Path.{◌≡◌}
use mathlib.Core.Bool.{true}
use mathlib.Core.List.{List}
use Prim.Native.Nat.{ℕ, suc, ◌+◌, ◌≤◌, ◌<◌}
use native.Mathlib.Omega.{arith}
use Rattle.sheet.specs.declared.Sheet.{Sheet}
use Rattle.paper.specs.Days.{real_day}
use Rattle.paper.specs.Accounts.{Account}
use Rattle.paper.specs.Batch.{Item, Header, a_file, a_group, an_item}
use Rattle.paper.specs.Carried.{Place}
use Rattle.calendar.specs.declared.term.Banks.{Banks}
use Rattle.roundtrip.proofs.flat.Few.{few-file, few-group, few-item}
use Rattle.rows.specs.declared.read.ItemRow.{ItemRow}
use Rattle.rows.specs.declared.walk.Before.{Before}
use Rattle.std.proofs.Common.{Option, Ok}
use Rattle.rows.specs.read.Sized.{Sized}
use Rattle.rows.specs.read.Told.{item_of}
use Rattle.rows.specs.walk.Walks.{before_of, Walks}
use Rattle.rows.proofs.walk.Passed.{file-passed, group-passed, item-passed, walk-sum}
use Rattle.fileline.specs.seen.Bits.{Holds}
use Rattle.survey.specs.declared.state.Found.{Found}
use Rattle.survey.specs.declared.state.State.{State}
use Rattle.survey.specs.state.Known.{Due}
use Rattle.survey.specs.state.Low.{Low}
use Rattle.survey.specs.state.Row.{Finds, Adds, Behind}
use Rattle.survey.proofs.state.Bounds.{low-bytes}

-- ---- what its stages ask of the row

module _ (b next : Before) where
  pub number_small : (kind number : ℕ) → Walks b (a_file kind number) (Ok next) → number < 1000000
  number_small kind number w = (file-passed b next kind number w).small

  pub date_real : (date : ℕ) (payer : Account) → Walks b (a_group date payer) (Ok next) → real_day date ≡ true
  date_real date payer w = (group-passed b next date payer w).day

  pub item-sized : (texts : List ℕ) (x : ItemRow) → Walks b (an_item (item_of texts x)) (Ok next) → Sized texts x
  item-sized texts x w = (item-passed b next texts x w).sized

-- ---- its numbers stay small

module _ (k : ℕ) (st : State) (low : Low k st) where
  module _ (next : Before) (f : Option Found) (n : ℕ) (more : n ≤ st.bytes + 500) where
    pub low-file : (kind number : ℕ) → Walks st.before (a_file kind number) (Ok next) → Low (k + 1) (record { before = next; bytes = n; found = f })
    low-file kind number w =
        let p = file-passed st.before next kind number w in
        record {
          n = suc low.n;
          row = omega (arith, low.row);
          few = rw w.leads (few-file (before_of st.before) low.n low.few p.due p.few);
          bytes = omega (arith, low.bytes);
          sum = walk-sum st.before next _ w;
        }

    pub low-group : (date : ℕ) (payer : Account) → Walks st.before (a_group date payer) (Ok next) → Low (k + 1) (record { before = next; bytes = n; found = f })
    low-group date payer w =
        record {
          n = suc low.n;
          row = omega (arith, low.row);
          few = rw w.leads (few-group (before_of st.before) low.n low.few payer (group-passed st.before next date payer w).due);
          bytes = omega (arith, low.bytes);
          sum = walk-sum st.before next _ w;
        }

    pub low-item : (texts : List ℕ) (x : ItemRow) → Walks st.before (an_item (item_of texts x)) (Ok next) → Low (k + 1) (record { before = next; bytes = n; found = f })
    low-item texts x w =
        let p = item-passed st.before next texts x w in
        record {
          n = suc low.n;
          row = omega (arith, low.row);
          few = rw w.leads (few-item (before_of st.before) low.n low.few (item_of texts x) p.due p.few);
          bytes = omega (arith, low.bytes);
          sum = walk-sum st.before next _ w;
        }

-- ---- it stands behind the row

module _ (sh : Sheet) (k : ℕ) (st : State) (next : Before) (f : Option Found) (n : ℕ) where
  pub behind-file : (from to : ℕ) (seen : List ℕ) (kind number : ℕ) → Walks st.before (a_file kind number) (Ok next)
      → ((today : ℕ) (h : Header) (p : Place) → h.from ≡ from → h.to ≡ to → Holds seen p.seen → Finds sh today h p k st (a_file kind number) f)
      → ((sh : Sheet) (kind number : ℕ) → Adds sh st (a_file kind number) n)
      → (today : ℕ) (h : Header) (p : Place) → h.from ≡ from → h.to ≡ to → Holds seen p.seen
      → Behind sh today h p k st (a_file kind number) (record { before = next; bytes = n; found = f })
  behind-file from to seen kind number w finds adds today h p a b holds =
      record { walks = w; found = finds today h p a b holds; bytes = adds sh kind number }

  pub behind-group : (today kind date : ℕ) (payer : Account) → Walks st.before (a_group date payer) (Ok next)
      → ((h : Header) (p : Place) → p.kind ≡ kind → Finds sh today h p k st (a_group date payer) f) → ((date : ℕ) → Adds sh st (a_group date payer) n)
      → (h : Header) (p : Place) → p.kind ≡ kind
      → Behind sh today h p k st (a_group date payer) (record { before = next; bytes = n; found = f })
  behind-group today kind date payer w finds adds h p e = record { walks = w; found = finds h p e; bytes = adds date }

  pub behind-item : (all : ℕ) (banks : Banks) (x : Item) → Walks st.before (an_item x) (Ok next)
      → ((today : ℕ) (h : Header) (p : Place) → p.items ≡ all → Due sh today banks p.kind p.date → Finds sh today h p k st (an_item x) f) → Adds sh st (an_item x) n
      → (today : ℕ) (h : Header) (p : Place) → p.items ≡ all → Due sh today banks p.kind p.date
      → Behind sh today h p k st (an_item x) (record { before = next; bytes = n; found = f })
  behind-item all banks x w finds adds today h p e due = record { walks = w; found = finds today h p e due; bytes = adds }

pub ruleset asked = (number_small, date_real, item-sized, low-bytes)

pub ruleset lows = (low-file, low-group, low-item)

pub ruleset behinds = (behind-file, behind-group, behind-item)
