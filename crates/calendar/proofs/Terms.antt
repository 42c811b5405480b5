-- Where a group's day is judged, and which banks may be due, from the code's tests. Assumes nothing.
use mathlib.Core.Path.{◌≡◌, refl, sym, ◌∙◌}
use mathlib.Core.Bool.{Bool, true, false}
use Prim.Native.Nat.{ℕ}
use native.Mathlib.Omega.{arith}
use lib.Dec.{eqb, ltb, leb}
use borrow.Author.Tests.{lt-ltb, le-ltb, eq-eqb, ne_eqb, leb-false}
use Rattle.base.specs.Pick.{pick}
use Rattle.base.proofs.Cases.{either, by-eq, pick-not}
use Rattle.sheet.specs.declared.Sheet.{Sheet}
use Rattle.paper.specs.Days.{month_ahead, collect_allowed}
use Rattle.paper.specs.Terms.{collection, day_here, bank_due}
use Rattle.calendar.specs.declared.term.Banks.{Banks}
use Rattle.calendar.specs.term.Allows.{allows}

module _ (sh : Sheet) (kind : ℕ) where
  -- ---- a collection

  pub is-1502 : kind ≡ 1502 → sh.collects ≡ collection sh kind
  unfolding collection pick
  is-1502 e = rw (eq-eqb _ _ e)

  pub not-1502 : (kind ≡ 1502 → ⊥) → false ≡ collection sh kind
  unfolding collection pick
  not-1502 n = rw (ne_eqb _ _ n)

  -- ---- a group's day

  pub always-here : sh.collects ≡ false → true ≡ day_here sh kind
  unfolding day_here pick
  always-here e = rw e

  module _ (e : sh.collects ≡ true) where
    pub not-here : kind ≡ 1502 → false ≡ day_here sh kind
    unfolding day_here pick
    not-here k = rw (e, eq-eqb _ _ k)

    pub here-kind : (kind ≡ 1502 → ⊥) → ltb 0 kind ≡ day_here sh kind
    unfolding day_here pick
    here-kind n = rw (e, ne_eqb _ _ n) (by-eq kind 0 (λ z. rw z) (λ z. rw (ne_eqb kind 0 z, lt-ltb 0 kind (omega arith))))

  -- ---- an item's bank

  module _ (today date : ℕ) where
    pub any-due : (t : Bool) → t ≡ collection sh kind → t ≡ false → (bank : ℕ) → true ≡ bank_due sh today kind date bank
    unfolding bank_due pick
    any-due t g e bank = rw (sym g ∙ e)

    pub all-due : (t : Bool) → t ≡ collection sh kind → t ≡ true → (r : Banks) → ((own bank : ℕ) → allows r own bank ≡ collect_allowed (eqb bank own) today date)
        → (bank : ℕ) → allows r sh.bank bank ≡ bank_due sh today kind date bank
    unfolding bank_due pick
    all-due t g e r q bank = rw (sym g ∙ e) (q sh.bank bank)

-- on a day on which any bank may be due the own one may be
own-too : (today date : ℕ) → collect_allowed false today date ≡ true → (own : Bool) → collect_allowed own today date ≡ true
unfolding collect_allowed pick
own-too today date e true =
    let (t, h) = pick-not (leb date today) (leb date (month_ahead today)) e in
    rw (le-ltb date today (omega (arith, leb-false date today t)), h)
own-too today date e false = e

-- and on one on which the own one may not, no one may
no_other : (today date : ℕ) → collect_allowed true today date ≡ false → (own : Bool) → collect_allowed own today date ≡ false
unfolding collect_allowed pick
no_other today date e true = e
no_other today date e false =
    either (λ b. b ≡ false) (leb date today) (λ _. refl)
    (λ n. rw (le-ltb date today (omega (arith, leb-false date today n))) at e)

-- t is what was found for the own bank, s for another one
module _ (today date : ℕ) (s : Bool) (f : s ≡ collect_allowed false today date) where
  pub any-collected : s ≡ true → (own bank : ℕ) → true ≡ collect_allowed (eqb bank own) today date
  any-collected e own bank = sym (own-too today date (sym f ∙ e) (eqb bank own))

  module _ (e : s ≡ false) (t : Bool) (g : t ≡ collect_allowed true today date) where
    pub own-collected : t ≡ true → (own bank : ℕ) → eqb bank own ≡ collect_allowed (eqb bank own) today date
    own-collected h own bank = so (eqb bank own)
      where
        so : (b : Bool) → b ≡ collect_allowed b today date
        so true = sym h ∙ g
        so false = sym e ∙ f

    pub none-collected : t ≡ false → (own bank : ℕ) → false ≡ collect_allowed (eqb bank own) today date
    none-collected h own bank = sym (no_other today date (sym g ∙ h) (eqb bank own))

pub ruleset terms = (is-1502, not-1502, always-here, not-here, here-kind)

pub ruleset banks-due = (any-due, all-due, any-collected, own-collected, none-collected)
