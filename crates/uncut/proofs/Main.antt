-- What is accepted without a warning: nothing in it was cut, and its totals are exact. For any sheet and any day. Assumes nothing.
use mathlib.Core.Path.{◌≡◌, refl, sym, ◌∙◌}
use mathlib.Core.Bool.{Bool, true}
use mathlib.Core.List.{List, [], ◌∷◌}
use Prim.Native.Nat.{ℕ, ◌+◌}
use native.Mathlib.Omega.{arith}
use lib.Dec.{eqb}
use lib.ListN.{length}
use borrow.Author.Tests.{eqb-true, eq-eqb}
use Rattle.base.specs.Pick.{pick}
use Rattle.base.proofs.Cases.{by-test}
use Rattle.base.proofs.Seek.{never}
use Rattle.sheet.specs.declared.Sheet.{Sheet}
use Rattle.sheet.specs.declared.Style.{Style}
use Rattle.sheet.specs.Sheets.{bank_allowed}
use Rattle.paper.specs.Accounts.{Account}
use Rattle.paper.specs.Batch.{Batch, Header}
use Rattle.paper.specs.Entries.{Entry, group}
use Rattle.paper.specs.Spells.{Due, differs, dues}
use Rattle.paper.specs.Judge.{Accepted, judge}
use Rattle.paper.proofs.Lists.{empty-null, null-none}
use Rattle.uncut.specs.Wider.{read_alike, named_alike, WiderStyle, TextsOf, Wider, Throughout}
use Rattle.uncut.specs.Severe.{uncutting, restyled, severe}
use Rattle.uncut.proofs.Walk.{taken-too}

-- ---- two sheets that differ in texts and totals alone

-- such sheets are alike in all other fields
restyled-wider : (Only : Entry → ℕ → Type 0) (sh : Sheet) (y z : Style) (strict strictly : Bool)
    → WiderStyle (TextsOf Only) y z
    → ((payer : Account) (total sum date v : ℕ) → Only (group payer sum date) (v + differs total sum)
    → Only (group payer total date) v × ((strict ≡ true → total ≡ sum) → strictly ≡ true → total ≡ sum))
    → Wider Only (λ h. h) (restyled sh y strict) (restyled sh z strictly)
unfolding bank_allowed
restyled-wider Only sh y z strict strictly texts totals =
    record {
      heads = read_alike (λ h. refl) refl refl refl;
      kinds = omega arith;
      banks = λ code e. e;
      joined = λ e. e;
      base = omega arith;
      empty = refl;
      zero = refl;
      long = λ e. e;
      early = λ e. e;
      ahead = omega arith;
      past = refl;
      collects = refl;
      own = refl;
      comma = λ e. e;
      digits = omega arith;
      amount = omega arith;
      priority = refl;
      fixed = refl;
      bare = λ e. e;
      texts = texts;
      near = λ e. e;
      totals = totals;
      items = omega arith;
    }

-- ---- what is let through: all, or what gives no warning

abbrev pub Any : Entry → ℕ → Type 0
Any e w = Unit {0}

abbrev Silent : Entry → ℕ → Type 0
Silent e w = w ≡ 0

pub any-throughout : (ds : List Due) (w : ℕ) → Throughout Any ds w
any-throughout [] w = tt
any-throughout (d ∷ ds) w = λ v u q. (tt, any-throughout ds u)

silent-throughout : (ds : List Due) (w : ℕ) → w ≡ 0 → Throughout Silent ds w
silent-throughout [] w z = tt
silent-throughout (d ∷ ds) w z = λ v u q. (omega arith, silent-throughout ds u (omega arith))

same_total : (total sum : ℕ) → differs total sum ≡ 0 → total ≡ sum
unfolding differs pick
same_total total sum e = by-test (eqb total sum) (λ y. eqb-true total sum y) (λ n. absurd (let z : ◌≡◌ {A = ℕ} 1 0 = rw n at e in omega arith))

module _ (sh : Sheet) where
  -- what gives no warning is read where nothing is cut and no total differs,
  silent-wider : Wider Silent (λ h. h) sh (severe sh)
  silent-wider =
      restyled-wider Silent sh sh.text (uncutting sh.text) sh.strict true
      (record { av = refl; may = λ e. e; names = named_alike refl; most = omega arith; cuts = λ t on _ _. null-none t.warnings (sym (empty-null t.warnings) ∙ eq-eqb (length t.warnings) 0 (omega (arith, on.only, on.warnings))); clean = λ e. e })
      (λ payer total sum date v o. (omega arith, λ _ _. same_total total sum (omega arith)))

  -- and all that is read there is read here
  any-wider : Wider Any (λ h. h) (severe sh) sh
  any-wider =
      restyled-wider Any sh (uncutting sh.text) sh.text true sh.strict
      (record { av = refl; may = λ e. e; names = named_alike refl; most = omega arith; cuts = λ t on c _. never (sym c); clean = λ e. e })
      (λ payer total sum date v o. (tt, λ same _. same refl))

  module _ (today : ℕ) where
    -- What is accepted without a warning is accepted, as the same batch, by the sheet that refuses whatever this one would cut or let differ.
    pub uncut : (f : List ℕ) (h : Header) (b : Batch) → judge sh today f ≡ Accepted h b 0 → judge (severe sh) today f ≡ Accepted h b 0
    uncut f h b e = taken-too Silent (λ g. g) sh (severe sh) silent-wider today f h b 0 (silent-throughout (dues h b) 0 refl) e

    -- And whatever that sheet accepts this one accepts alike, with as many warnings.
    pub severely : (f : List ℕ) (h : Header) (b : Batch) (w : ℕ) → judge (severe sh) today f ≡ Accepted h b w → judge sh today f ≡ Accepted h b w
    severely f h b w e = taken-too Any (λ g. g) (severe sh) sh any-wider today f h b w (any-throughout (dues h b) w) e
