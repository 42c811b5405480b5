-- Total and date of a line that was judged: the date ends the line, and the byte before six digits tells it from eight. Assumes nothing.
use mathlib.Core.Path.{◌≡◌, refl, sym, ◌∙◌}
use mathlib.Core.Bool.{Bool, true, false}
use mathlib.Core.List.{List}
use Prim.Native.Nat.{ℕ, ◌+◌, ◌-◌, ◌≤◌, ◌<◌}
use native.Mathlib.Omega.{arith}
use lib.Dec.{eqb}
use lib.ListN.{length, get_or, drop}
use Rattle.base.specs.Pick.{pick}
use Rattle.base.specs.Seek.{seek}
use Rattle.base.proofs.Cases.{by-test}
use Rattle.sheet.specs.declared.Sheet.{Sheet}
use Rattle.paper.specs.Read.{Field, value}
use Rattle.paper.specs.Warnings.{past_day, notices}
use Rattle.paper.specs.Accounts.{Account, account}
use Rattle.paper.specs.Amounts.{read_total}
use Rattle.paper.specs.Bytes.{space, field_of}
use Rattle.paper.specs.Days.{short_day, long_day, read_day, due_allowed, due_warnings, read_due}
use Rattle.paper.specs.Entries.{group, total_at, Listed, said, field, line_end}
use Rattle.paper.specs.GroupLine.{total_and_date}
use Rattle.paper.specs.ItemLine.{is_value}
use Rattle.numeral.proofs.given.Given.{value_same}
use Rattle.numeral.proofs.field.Front.{field-long, split-byte, part-byte}
use Rattle.numeral.specs.placed.Known.{There}
use Rattle.numeral.proofs.placed.Parts.{there-long, some-value, at_value}
use Rattle.numeral.specs.placed.Said.{is_said}
use Rattle.numeral.proofs.placed.Goes.{said-as, next-goes, next-there}
use Rattle.groupline.specs.declared.take.Group.{Group}
use Rattle.groupline.specs.take.Taken.{Opens}
use Rattle.numeral.proofs.placed.Last.{tested, last_some, last-is, last-whole}
use Rattle.calendar.proofs.at.Taken.{short-long, long-long, long-placed}

-- the space behind a field that is there
behind : {A : Type 0} (read : List ℕ → Field A) (s : List ℕ) (at : ℕ) → There read s at → get_or s (at + seek space (drop at s)) 0 ≡ 32
behind read s at h = rw (← (field-long (drop at s))) (part-byte s at (field_of (drop at s)) 32 _ (split-byte 32 (drop at s) (there-long read s at h)))

-- the date d stands at `from` of the line s, in one of two forms
pub data Dated (s : List ℕ) (from d : ℕ) : Type 0 where
  short : length s ≡ from + 6 → short_day (drop from s) ≡ value d → Dated s from d
  long : length s ≡ from + 8 → long_day (drop from s) ≡ value d → Dated s from d

day-dated : (b : Bool) (s : List ℕ) (from d : ℕ) → from ≤ length s → read_day b (drop from s) ≡ value d → Dated s from d
unfolding read_day pick
day-dated b s from d l h =
    by-test (pick b (eqb (length (drop from s)) 8) false)
    (λ t. let e : long_day (drop from s) ≡ value d = simp t at h in long (long-long s from d e l) e)
    (λ t. let e : short_day (drop from s) ≡ value d = simp t at h in short (short-long s from d l e) e)

module _ (sh : Sheet) (today : ℕ) (here : Bool) (payer : Account) (s : List ℕ) (at : ℕ) (h : is_said (total_and_date sh today here payer at (drop at s)) ≡ true) where
  abbrev total_of : List ℕ → Field ℕ
  total_of = read_total sh.comma

  abbrev date_of : List ℕ → Field ℕ
  date_of = read_due sh.longdate here sh.early sh.ahead today

  abbrev opens : ℕ → ℕ → ℕ → Listed
  opens due total date = said (group payer total date) (notices past_day due (due_warnings here sh.warnpast today date)) (total_at at)

  abbrev from_date : ℕ → ℕ → List ℕ → Listed
  from_date total a2 s2 = field date_of a2 s2 λ date a3 s3. line_end a3 s3 (opens a2 total date)

  there : There total_of s at
  unfolding total_and_date
  there = next-there total_of s at from_date h

  total-some : (v : ℕ) × (total_of (field_of (drop at s)) ≡ value v)
  total-some = some-value (total_of (field_of (drop at s))) there.says

  abbrev total : ℕ
  total = total-some.0

  abbrev end : ℕ
  end = at + seek space (drop at s)

  to-date : total_and_date sh today here payer at (drop at s) ≡ from_date total (end + 1) (drop (end + 1) s)
  unfolding total_and_date
  to-date = next-goes total_of s at from_date h total end (at_value total_of s at total total end total-some.1 refl refl)

  said-date : is_said (from_date total (end + 1) (drop (end + 1) s)) ≡ true
  said-date = said-as _ _ h to-date

  date-some : (d : ℕ) × (date_of (field_of (drop (end + 1) s)) ≡ value d)
  date-some = last_some date_of s (end + 1) (opens (end + 1) total) said-date

  abbrev date : ℕ
  date = date-some.0

  says : total_and_date sh today here payer at (drop at s) ≡ opens (end + 1) total date
  unfolding date-some
  says = to-date ∙ last-is date_of s (end + 1) (opens (end + 1) total) said-date

  day-there : read_day sh.longdate (drop (end + 1) s) ≡ value date
  unfolding read_due
  day-there =
      tested (due_allowed here sh.early sh.ahead today) 11 (read_day sh.longdate (drop (end + 1) s)) date
      (rw (last-whole date_of s (end + 1) (opens (end + 1) total) said-date) at date-some.1)

  dated : Dated s (end + 1) date
  dated = day-dated sh.longdate s (end + 1) date (omega (arith, there.on)) day-there

  -- the form is told by the byte in front of six digits
  module _ (b : get_or s (length s - 7) 0 ≡ 32) where
    is-short : (from d : ℕ) → Dated s from d → (length s ≡ from + 6) × (short_day (drop (length s - 6) s) ≡ value d)
    is-short from d (short n x) = let z : length s - 6 ≡ from = omega arith in (n, rw z x)
    is-short from d (long n x) = let z : length s - 7 ≡ from + 1 = omega arith in absurd (omega (arith, rw z at b, long-placed s from d x))

    pub ends-short : length s ≡ at + seek space (drop at s) + 7
    ends-short = omega (arith, (is-short (end + 1) date dated).0)

    pub short-there : is_value (short_day (drop (length s - 6) s)) ≡ true
    unfolding is_value
    short-there = rw (is-short (end + 1) date dated).1

    short-date : (v : ℕ) → value v ≡ short_day (drop (length s - 6) s) → date ≡ v
    short-date v e = sym (value_same v date (e ∙ (is-short (end + 1) date dated).1))

  module _ (b : get_or s (length s - 7) 0 ≡ 32 → ⊥) where
    is-long : (from d : ℕ) → from ≡ end + 1 → Dated s from d → (length s ≡ from + 8) × (long_day (drop (length s - 8) s) ≡ value d)
    is-long from d e (short n x) = let z : length s - 7 ≡ end = omega arith in absurd (b (rw z (behind total_of s at there)))
    is-long from d e (long n x) = let z : length s - 8 ≡ from = omega arith in (n, rw z x)

    pub ends-long : length s ≡ at + seek space (drop at s) + 9
    ends-long = omega (arith, (is-long (end + 1) date refl dated).0)

    pub long-there : is_value (long_day (drop (length s - 8) s)) ≡ true
    unfolding is_value
    long-there = rw (is-long (end + 1) date refl dated).1

    pub long-room : 8 ≤ length s
    long-room = omega (arith, ends-long)

    long-date : (v : ℕ) → value v ≡ long_day (drop (length s - 8) s) → date ≡ v
    long-date v e = sym (value_same v date (e ∙ (is-long (end + 1) date refl dated).1))

  -- the bytes that are read are there
  some-long : (from d : ℕ) → from ≡ end + 1 → Dated s from d → 7 ≤ length s
  some-long from d e (short n x) = omega arith
  some-long from d e (long n x) = omega arith

  pub date-room : 7 ≤ length s
  date-room = some-long (end + 1) date refl dated

  pub short-room : 6 ≤ length s
  short-room = omega (arith, date-room)

  pub date-byte : length s - 7 < length s
  date-byte = omega (arith, date-room)

  opened : (v : ℕ) → date ≡ v → (g : Group) → g ≡ record { prefix = payer.prefix; base = payer.base; date = v } → Opens (total_and_date sh today here payer at (drop at s)) g
  opened v e g q = record { total = total; warnings = notices past_day (end + 1) (due_warnings here sh.warnpast today date); places = total_at at; says = says ∙ rw (q, e) }

module _ (sh : Sheet) (today : ℕ) (here : Bool) (prefix base : ℕ) (s : List ℕ) (at : ℕ) (h : is_said (total_and_date sh today here (account prefix base) at (drop at s)) ≡ true) where
  abbrev with : ℕ → Group
  with v = record { prefix = prefix; base = base; date = v }

  pub short-opens : get_or s (length s - 7) 0 ≡ 32 → (v : ℕ) → value v ≡ short_day (drop (length s - 6) s) → Opens (total_and_date sh today here (account prefix base) at (drop at s)) (with v)
  short-opens b v e = opened sh today here (account prefix base) s at h v (short-date sh today here (account prefix base) s at h b v e) (with v) refl

  pub long-opens : (get_or s (length s - 7) 0 ≡ 32 → ⊥) → (v : ℕ) → value v ≡ long_day (drop (length s - 8) s) → Opens (total_and_date sh today here (account prefix base) at (drop at s)) (with v)
  long-opens b v e = opened sh today here (account prefix base) s at h v (long-date sh today here (account prefix base) s at h b v e) (with v) refl

pub ruleset dates = (date-room, date-byte, short-room, short-there, short-opens, long-room, long-there, long-opens)
