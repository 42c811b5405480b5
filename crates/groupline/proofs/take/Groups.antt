-- The line that begins a group: whether its payer stands there, and what follows. Assumes nothing.
use mathlib.Core.Path.{◌≡◌, refl, sym, ◌∙◌}
use mathlib.Core.Bool.{Bool, true, false}
use mathlib.Core.List.{List}
use Prim.Native.Nat.{ℕ, ◌+◌, ◌-◌, ◌≤◌, ◌<◌}
use native.Mathlib.Omega.{arith}
use mir.Val.{Fits}
use mir.Syntax.{w64}
use lib.Dec.{ltb}
use lib.ListN.{length, get_or, drop}
use borrow.Author.Tests.{lt-ltb, le-ltb}
use Rattle.base.specs.Seek.{seek}
use Rattle.base.proofs.Cases.{by-test, pick_true, pick-false}
use Rattle.sheet.specs.declared.Sheet.{Sheet}
use Rattle.paper.specs.Read.{Field, value}
use Rattle.paper.specs.Accounts as paper
use Rattle.paper.specs.Accounts.{nobody, read_payer}
use Rattle.paper.specs.Bytes.{space, field_of}
use Rattle.paper.specs.Entries.{Listed, field, gap}
use Rattle.paper.specs.GroupLine.{has_payer, total_and_date, read_group}
use Rattle.numeral.specs.field.At.{found, field_at}
use Rattle.numeral.specs.placed.Known.{There}
use Rattle.account.specs.at.Told.{told_account}
use Rattle.account.specs.declared.at.Account.{Account}
use Rattle.numeral.proofs.placed.Parts.{some-value, at_value}
use Rattle.numeral.specs.placed.Said.{is_said}
use Rattle.numeral.proofs.placed.Goes.{said-as, next-inside, next-goes, next-there}
use Rattle.groupline.specs.declared.take.Group.{Group}
use Rattle.groupline.specs.take.Taken.{Opens}
use Rattle.groupline.proofs.take.Dates.{ends-short, ends-long, date-room}

module _ (sh : Sheet) (today : ℕ) (here : Bool) (s : List ℕ) (h : is_said (read_group sh today here s) ≡ true) where
  abbrev payer_of : List ℕ → Field paper.Account
  payer_of = read_payer sh.emptypayer sh.zeropayer sh.joined sh.basemin

  -- ---- without a payer

  module _ (t : has_payer sh.emptypayer s ≡ false) where
    alone-goes : read_group sh today here s ≡ total_and_date sh today here nobody 2 (drop 2 s)
    unfolding read_group
    alone-goes = pick-false _ _ t

    alone-said : is_said (total_and_date sh today here nobody 2 (drop 2 s)) ≡ true
    alone-said = said-as _ _ h alone-goes

  -- ---- with one

  module _ (t : has_payer sh.emptypayer s ≡ true) where
    abbrev from_total : paper.Account → ℕ → List ℕ → Listed
    from_total payer a2 s2 = total_and_date sh today here payer a2 s2

    first : read_group sh today here s ≡ field payer_of 2 (drop 2 s) (λ payer a1 s1. gap a1 s1 λ a2 s2. from_total payer a2 s2)
    unfolding read_group
    first = pick_true _ _ t

    first_said : is_said (field payer_of 2 (drop 2 s) (λ payer a1 s1. gap a1 s1 λ a2 s2. from_total payer a2 s2)) ≡ true
    first_said = said-as _ _ h first

    there : There payer_of s 2
    there = next-there payer_of s 2 from_total first_said

    module _ (p : paper.Account) (e : ℕ) (g : found p e ≡ field_at payer_of s 2) where
      inside : e < length s
      inside = next-inside payer_of s 2 from_total first_said p e g

      goes : read_group sh today here s ≡ total_and_date sh today here p (e + 1) (drop (e + 1) s)
      goes = first ∙ next-goes payer_of s 2 from_total first_said p e g

      total-said : is_said (total_and_date sh today here p (e + 1) (drop (e + 1) s)) ≡ true
      total-said = said-as _ _ h goes

    -- its total begins behind it
    some : (p : paper.Account) × (payer_of (field_of (drop 2 s)) ≡ value p)
    some = some-value (payer_of (field_of (drop 2 s))) there.says

    abbrev end : ℕ
    end = 2 + seek space (drop 2 s)

    some-found : found some.0 end ≡ field_at payer_of s 2
    some-found = at_value payer_of s 2 some.0 some.0 end some.1 refl refl

    some-said : is_said (total_and_date sh today here some.0 (end + 1) (drop (end + 1) s)) ≡ true
    some-said = total-said some.0 end some-found

  -- ---- which of both

  pub payer-always : sh.emptypayer ≡ true → true ≡ has_payer sh.emptypayer s
  unfolding has_payer
  payer-always e = sym (pick_true _ _ e)

  pub group-room : 7 ≤ length s
  group-room =
      by-test (has_payer sh.emptypayer s)
      (λ t. date-room sh today here (some t).0 s (end t + 1) (some-said t))
      (λ t. date-room sh today here nobody s 2 (alone-said t))

  pub group-byte : length s - 7 < length s
  group-byte = omega (arith, group-room)

  pub group-long : 2 ≤ length s
  group-long = omega (arith, group-room)

  module _ (e : ℕ) (q : e ≡ 2 + seek space (drop 2 s)) where
    pub end-fits-short : length s < 18446744073709551616 → get_or s (length s - 7) 0 ≡ 32 → Fits w64 (e + 7)
    end-fits-short l b =
        by-test (has_payer sh.emptypayer s)
        (λ t. omega (arith, ends-short sh today here (some t).0 s (end t + 1) (some-said t) b))
        (λ t. omega (arith, ends-short sh today here nobody s 2 (alone-said t) b))

    pub end-fits-long : length s < 18446744073709551616 → (get_or s (length s - 7) 0 ≡ 32 → ⊥) → Fits w64 (e + 9)
    end-fits-long l b =
        by-test (has_payer sh.emptypayer s)
        (λ t. omega (arith, ends-long sh today here (some t).0 s (end t + 1) (some-said t) b))
        (λ t. omega (arith, ends-long sh today here nobody s 2 (alone-said t) b))

    pub payer-short : get_or s (length s - 7) 0 ≡ 32 → ltb (e + 7) (length s) ≡ has_payer sh.emptypayer s
    payer-short b =
        by-test (has_payer sh.emptypayer s)
        (λ t. lt-ltb (e + 7) (length s) (omega (arith, ends-short sh today here (some t).0 s (end t + 1) (some-said t) b)) ∙ sym t)
        (λ t. le-ltb (e + 7) (length s) (omega (arith, ends-short sh today here nobody s 2 (alone-said t) b)) ∙ sym t)

    pub payer-long : (get_or s (length s - 7) 0 ≡ 32 → ⊥) → ltb (e + 9) (length s) ≡ has_payer sh.emptypayer s
    payer-long b =
        by-test (has_payer sh.emptypayer s)
        (λ t. lt-ltb (e + 9) (length s) (omega (arith, ends-long sh today here (some t).0 s (end t + 1) (some-said t) b)) ∙ sym t)
        (λ t. le-ltb (e + 9) (length s) (omega (arith, ends-long sh today here nobody s 2 (alone-said t) b)) ∙ sym t)

  -- ---- the answer t was given

  module _ (t : Bool) (q : t ≡ has_payer sh.emptypayer s) where
    pub none_said : t ≡ false → is_said (total_and_date sh today here nobody 2 (drop 2 s)) ≡ true
    none_said f = alone-said (sym q ∙ f)

    pub none-opens : t ≡ false → (g : Group) → Opens (total_and_date sh today here nobody 2 (drop 2 s)) g → Opens (read_group sh today here s) g
    none-opens f g o = rw (alone-goes (sym q ∙ f)) o

    module _ (f : t ≡ true) where
      pub payer-stands : There (read_payer sh.emptypayer sh.zeropayer sh.joined sh.basemin) s 2
      payer-stands = there (sym q ∙ f)

      module _ (p : Account) (g : told_account p ≡ field_at (read_payer sh.emptypayer sh.zeropayer sh.joined sh.basemin) s 2) where
        pub payer-room : length s < 18446744073709551616 → Fits w64 (p.end + 1)
        payer-room l = omega (arith, inside (sym q ∙ f) (paper.account p.prefix p.base) p.end g)

        pub payer-said : is_said (total_and_date sh today here (paper.account p.prefix p.base) (p.end + 1) (drop (p.end + 1) s)) ≡ true
        payer-said = total-said (sym q ∙ f) (paper.account p.prefix p.base) p.end g

        pub payer-opens : (r : Group) → Opens (total_and_date sh today here (paper.account p.prefix p.base) (p.end + 1) (drop (p.end + 1) s)) r → Opens (read_group sh today here s) r
        payer-opens r o = rw (goes (sym q ∙ f) (paper.account p.prefix p.base) p.end g) o

pub ruleset payers = (payer-always, group-room, group-byte, group-long, end-fits-short, end-fits-long, payer-short, payer-long)

pub ruleset groups = (none_said, none-opens, payer-stands, payer-room, payer-said, payer-opens)
