-- The rules of the bank field, by what the code asks. Assumes nothing.
use mathlib.Core.Path.{◌≡◌, sym, ap, ◌∙◌}
use mathlib.Core.Bool.{Bool, true, false, not}
use mathlib.Core.List.{List, [], ◌∷◌}
use Prim.Native.Nat.{ℕ, ◌/◌, ◌%◌, ◌≤◌, ◌<◌}
use lib.Dec.{eqb, ltb, leb}
use borrow.Author.Tests.{eq-eqb, ne_eqb, lt-ltb, le-ltb, le-leb, lt-leb}
use Rattle.std.proofs.Common.{Result, Ok, Err}
use Rattle.refusal.specs.declared.Refusal.{Refusal}
use Rattle.base.specs.Pick.{pick}
use Rattle.base.proofs.Cases.{pick_true, pick-false}
use Rattle.paper.specs.Numerals.{digits}
use Rattle.paper.specs.Days.{month_ahead}
use Rattle.numeral.specs.Told.{told}
use Rattle.why.specs.Rule.{Rule, rule, within, first_broken}
use Rattle.why.specs.Forms.{spelled}
use Rattle.why.specs.Fields.{bank_of, has_bank, tenth_zero, ninth_zero, own_term, other_term, last_term, bank_rules}
use Rattle.fault.specs.field.Ruled.{Ruling, broken, ruling}
use Rattle.fault.proofs.field.Rulings.{is-broken, first-kept, first-broke, all-kept, are-digits, spelled_is, digits-broke}

-- ---- a collection's term

module _ (x : Ruling) (today date : ℕ) (s : List ℕ) where
  -- one month ahead
  module _ (m : ℕ) (e : m ≡ month_ahead today) where
    last-is : last_term true today date s ≡ leb date m
    unfolding last_term pick
    last-is = rw e

    pub last-over : m < date → x ≡ Err (broken 11 114 today 1) → x ≡ ruling (first_broken (within 11 114 today 1 (last_term true today date) ∷ []) s)
    last-over l h = first-broke x s (within 11 114 today 1 (last_term true today date)) [] (last-is ∙ lt-leb date m l) h

    pub last-kept : date ≤ m → x ≡ Ok tt → x ≡ ruling (first_broken (within 11 114 today 1 (last_term true today date) ∷ []) s)
    last-kept l h = first-kept x s _ [] (last-is ∙ le-leb date m l) (all-kept x s h)

  module _ (here : Bool) (own bank : ℕ) (q : bank_of s ≡ bank) where
    abbrev Terms : List Rule
    Terms =
        within 11 113 today 0 (own_term here own today date)
        ∷ within 11 113 today 1 (other_term here own today date)
        ∷ within 11 114 today 1 (last_term here today date)
        ∷ []

    pub term-free : here ≡ false → x ≡ Ok tt → x ≡ ruling (first_broken Terms s)
    unfolding own_term other_term last_term
    term-free o h = first-kept x s _ _ (pick-false _ _ o) (first-kept x s _ _ (pick-false _ _ o) (first-kept x s _ _ (pick-false _ _ o) (all-kept x s h)))

    module _ (o : here ≡ true) where
      -- the last rule, where it is judged
      to_last : ((z : List ℕ) → x ≡ ruling (first_broken (within 11 114 today 1 (last_term true today date) ∷ []) z))
          → x ≡ ruling (first_broken (within 11 114 today 1 (last_term here today date) ∷ []) s)
      to_last h = rw o (h s)

      module _ (e : bank ≡ own) where
        is-own : eqb (bank_of s) own ≡ true
        is-own = eq-eqb (bank_of s) own (q ∙ e)

        own_is : own_term here own today date s ≡ not (ltb date today)
        unfolding own_term
        own_is = pick_true _ _ o ∙ pick_true _ _ is-own

        other-passes : other_term here own today date s ≡ true
        unfolding other_term
        other-passes = pick_true _ _ o ∙ pick_true _ _ is-own

        pub own-early : date < today → x ≡ Err (broken 11 113 today 0) → x ≡ ruling (first_broken Terms s)
        own-early l h = first-broke x s (within 11 113 today 0 (own_term here own today date)) _ (own_is ∙ ap not (lt-ltb date today l)) h

        pub own-later : today ≤ date → ((z : List ℕ) → x ≡ ruling (first_broken (within 11 114 today 1 (last_term true today date) ∷ []) z)) → x ≡ ruling (first_broken Terms s)
        own-later l h = first-kept x s _ _ (own_is ∙ ap not (le-ltb date today l)) (first-kept x s _ _ other-passes (to_last h))

      module _ (e : bank ≡ own → ⊥) where
        is-other : eqb (bank_of s) own ≡ false
        is-other = ne_eqb (bank_of s) own (λ f. e (sym q ∙ f))

        own-passes : own_term here own today date s ≡ true
        unfolding own_term
        own-passes = pick_true _ _ o ∙ pick-false _ _ is-other

        other-is : other_term here own today date s ≡ not (leb date today)
        unfolding other_term
        other-is = pick_true _ _ o ∙ pick-false _ _ is-other

        pub other-early : date ≤ today → x ≡ Err (broken 11 113 today 1) → x ≡ ruling (first_broken Terms s)
        other-early l h = first-kept x s _ _ own-passes (first-broke x s (within 11 113 today 1 (other_term here own today date)) _ (other-is ∙ ap not (le-leb date today l)) h)

        pub other-later : today < date → ((z : List ℕ) → x ≡ ruling (first_broken (within 11 114 today 1 (last_term true today date) ∷ []) z)) → x ≡ ruling (first_broken Terms s)
        other-later l h = first-kept x s _ _ own-passes (first-kept x s _ _ (other-is ∙ ap not (lt-leb date today l)) (to_last h))

pub ruleset lasts = (is-broken, last-over, last-kept)

pub ruleset terms = (is-broken, term-free, own-early, own-later, other-early, other-later)

-- ---- the whole field

module _ (x : Ruling) (n : Result ℕ Refusal) (s : List ℕ) (t : told n ≡ digits 8 10 s) (ranked here : Bool) (own today date : ℕ) where
  pub bank-broke : (m : Refusal) → n ≡ Err m → x ≡ Err (broken 4 40 0 0) → x ≡ ruling (first_broken (bank_rules ranked here own today date) s)
  bank-broke m e h = digits-broke n s 8 10 t x _ m e h

  module _ (v : ℕ) (e : n ≡ Ok v) where
    spelled-v : spelled s ≡ v
    spelled-v = spelled_is n s 8 10 t v e

    pub bank-is : bank_of s ≡ v / 10000 % 10000
    bank-is = ap (λ (a : ℕ). a / 10000 % 10000) spelled-v

    pub bank-none : v / 10000 % 10000 ≡ 0 → x ≡ Err (broken 12 120 1 9999) → x ≡ ruling (first_broken (bank_rules ranked here own today date) s)
    unfolding has_bank
    bank-none z h = first-kept x s _ _ (are-digits n s 8 10 t v e) (first-broke x s (within 12 120 1 9999 has_bank) _ (ap not (eq-eqb (bank_of s) 0 (bank-is ∙ z))) h)

    module _ (b : v / 10000 % 10000 ≡ 0 → ⊥) where
      some : has_bank s ≡ true
      unfolding has_bank
      some = ap not (ne_eqb (bank_of s) 0 (λ z. b (sym bank-is ∙ z)))

      pub bank-tenth : 999999999 < v → x ≡ Err (broken 13 131 0 0) → x ≡ ruling (first_broken (bank_rules ranked here own today date) s)
      unfolding tenth_zero
      bank-tenth l h =
          first-kept x s _ _ (are-digits n s 8 10 t v e)
          (first-kept x s _ _ some (first-broke x s (rule 13 131 tenth_zero) _ (ap not (ap (ltb 999999999) spelled-v ∙ lt-ltb 999999999 v l)) h))

      module _ (l : v ≤ 999999999) (k : Bool) (r : k ≡ pick ranked true (eqb (v / 100000000) 0)) where
        tenth : tenth_zero s ≡ true
        unfolding tenth_zero
        tenth = ap not (ap (ltb 999999999) spelled-v ∙ le-ltb 999999999 v l)

        ninth-is : ninth_zero ranked s ≡ k
        unfolding ninth_zero
        ninth-is = ap (λ (a : ℕ). pick ranked true (eqb (a / 100000000) 0)) spelled-v ∙ sym r

        pub bank-ninth : k ≡ false → x ≡ Err (broken 13 130 0 0) → x ≡ ruling (first_broken (bank_rules ranked here own today date) s)
        bank-ninth y h =
            first-kept x s _ _ (are-digits n s 8 10 t v e)
            (first-kept x s _ _ some (first-kept x s _ _ tenth (first-broke x s (rule 13 130 (ninth_zero ranked)) _ (ninth-is ∙ y) h)))

        pub bank-term : k ≡ true → ((z : List ℕ) → bank_of z ≡ v / 10000 % 10000 → x ≡ ruling (first_broken (within 11 113 today 0 (own_term here own today date) ∷ within 11 113 today 1 (other_term here own today date) ∷ within 11 114 today 1 (last_term here today date) ∷ []) z))
            → x ≡ ruling (first_broken (bank_rules ranked here own today date) s)
        bank-term y h =
            first-kept x s _ _ (are-digits n s 8 10 t v e)
            (first-kept x s _ _ some (first-kept x s _ _ tenth (first-kept x s (rule 13 130 (ninth_zero ranked)) _ (ninth-is ∙ y) (h s bank-is))))

pub ruleset banks = (is-broken, bank-broke, bank-none, bank-tenth, bank-ninth, bank-term)
