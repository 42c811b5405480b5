-- The rules of a due date, by what the code asks. Assumes nothing.
use mathlib.Core.Path.{◌≡◌, sym, ap, ◌∙◌}
use mathlib.Core.Bool.{Bool, true, false}
use mathlib.Core.List.{List, [], ◌∷◌}
use Prim.Native.Nat.{ℕ, ◌-◌, ◌≤◌, ◌<◌}
use lib.Dec.{ltb, leb}
use lib.ListN.{length}
use borrow.Author.Tests.{eq-eqb, ne_eqb, lt-ltb, le-ltb, le-leb, lt-leb}
use Rattle.std.proofs.Common.{Result, Ok, Err}
use Rattle.refusal.specs.declared.Refusal.{Refusal}
use Rattle.base.specs.Pick.{pick}
use Rattle.base.proofs.Cases.{pick_true, pick-false}
use Rattle.paper.specs.Read.{value, fault}
use Rattle.paper.specs.Numerals.{digits}
use Rattle.paper.specs.Days.{real_day, past, day_number}
use Rattle.numeral.specs.Told.{told}
use Rattle.why.specs.Rule.{Rule, rule, within, first_broken}
use Rattle.why.specs.Forms.{are_digits, spelled, is_long, is_day, shortly, day_spelled}
use Rattle.why.specs.Fields.{is_real, not_early, not_late, first_day, last_day, due_rules}
use Rattle.why.proofs.Agrees.{digits_are}
use Rattle.fault.specs.field.Ruled.{Ruling, broken, ruling}
use Rattle.fault.proofs.field.Rulings.{is-broken, first-kept, first-broke, all-kept, formed, unformed, worth}

-- ---- which form

abbrev Spells : Result ℕ Refusal → Bool → List ℕ → Type 0
Spells n long s = told n ≡ pick (is_day long s) (value (day_spelled long s)) (fault 4)

module _ (long : Bool) (s : List ℕ) where
  pub not_eight : long ≡ true → (length s ≡ 8 → ⊥) → is_long long s ≡ false
  unfolding is_long pick
  not_eight o l = rw (o, ne_eqb (length s) 8 l)

  pub not-long : long ≡ false → is_long long s ≡ false
  unfolding is_long pick
  not-long o = rw o

pub long-form : (n : Result ℕ Refusal) (long : Bool) (s : List ℕ) → long ≡ true → length s ≡ 8 → told n ≡ digits 8 8 s → Spells n long s
unfolding is_day day_spelled is_long pick
long-form n long s o l t = t ∙ (digits_are 8 8 s ∙ rw (o, eq-eqb (length s) 8 l))

-- .. the short one: m is what was read of it
module _ (long : Bool) (s : List ℕ) (i : is_long long s ≡ false) (m : Result ℕ Refusal) (t : told m ≡ digits 6 6 s) where
  short-is : digits 6 6 s ≡ pick (are_digits 6 6 s) (value (spelled s)) (fault 4)
  short-is = digits_are 6 6 s

  pub short-day : (v : ℕ) → m ≡ Ok v → Spells (Ok (shortly v)) long s
  unfolding is_day day_spelled pick
  short-day v e =
      let k : are_digits 6 6 s ≡ true = formed (are_digits 6 6 s) _ (sym (ap told e) ∙ (t ∙ short-is)) in
      let w : spelled s ≡ v = worth (are_digits 6 6 s) _ (sym (ap told e) ∙ (t ∙ short-is)) in
      ap value (ap shortly (sym w)) ∙ rw (i, k)

  pub short-fault : (v : Refusal) → m ≡ Err v → Spells (Err v) long s
  unfolding is_day day_spelled pick
  short-fault v e =
      let k : are_digits 6 6 s ≡ false = unformed (are_digits 6 6 s) _ (sym (ap told e) ∙ (t ∙ short-is)) in
      ap told (sym e) ∙ (t ∙ (short-is ∙ rw (i, k)))

pub ruleset forms = (long-form, not_eight, not-long)

pub ruleset shorts = (short-day, short-fault)

-- ---- among the sheet's days

module _ (x : Ruling) (long here early : Bool) (ahead today d : ℕ) (s : List ℕ) (q : day_spelled long s ≡ d) where
  abbrev Terms : List Rule
  Terms =
      within 11 111 (first_day early today) (last_day ahead) (not_early long here early today)
      ∷ within 11 112 (first_day early today) (last_day ahead) (not_late long here ahead today)
      ∷ []

  pub term-free : here ≡ false → x ≡ Ok tt → x ≡ ruling (first_broken Terms s)
  unfolding not_early not_late
  term-free o h = first-kept x s _ _ (pick-false _ _ o) (first-kept x s _ _ (pick-false _ _ o) (all-kept x s h))

  module _ (o : here ≡ true) (n m : ℕ) (e : n ≡ day_number d) (f : m ≡ day_number today) where
    past_is : past today (day_spelled long s) ≡ ltb n m
    unfolding past
    past_is = rw (q, e, f)

    early-is : n < m → not_early long here early today s ≡ early
    unfolding not_early
    early-is l = pick_true _ _ o ∙ pick_true _ _ (past_is ∙ lt-ltb n m l)

    late-past : n < m → not_late long here ahead today s ≡ true
    unfolding not_late
    late-past l = pick_true _ _ o ∙ pick_true _ _ (past_is ∙ lt-ltb n m l)

    early-later : m ≤ n → not_early long here early today s ≡ true
    unfolding not_early
    early-later l = pick_true _ _ o ∙ pick-false _ _ (past_is ∙ le-ltb n m l)

    late_is : m ≤ n → not_late long here ahead today s ≡ leb (n - m) ahead
    unfolding not_late
    late_is l = pick_true _ _ o ∙ (pick-false _ _ (past_is ∙ le-ltb n m l) ∙ rw (q, e, f))

    pub term-past : n < m → early ≡ true → x ≡ Ok tt → x ≡ ruling (first_broken Terms s)
    term-past l y h = first-kept x s _ _ (early-is l ∙ y) (first-kept x s _ _ (late-past l) (all-kept x s h))

    pub term-early : (a b : ℕ) → n < m → early ≡ false → a ≡ first_day early today → b ≡ last_day ahead → x ≡ Err (broken 11 111 a b) → x ≡ ruling (first_broken Terms s)
    term-early a b l y i j h =
        first-broke x s (within 11 111 (first_day early today) (last_day ahead) (not_early long here early today)) _ (early-is l ∙ y) (h ∙ rw (i, j))

    pub term-late : (a b : ℕ) → m ≤ n → ahead < n - m → a ≡ first_day early today → b ≡ last_day ahead → x ≡ Err (broken 11 112 a b) → x ≡ ruling (first_broken Terms s)
    term-late a b l r i j h =
        first-kept x s _ _ (early-later l)
        (first-broke x s (within 11 112 (first_day early today) (last_day ahead) (not_late long here ahead today)) _ (late_is l ∙ lt-leb (n - m) ahead r) (h ∙ rw (i, j)))

    pub term-kept : m ≤ n → n - m ≤ ahead → x ≡ Ok tt → x ≡ ruling (first_broken Terms s)
    term-kept l r h = first-kept x s _ _ (early-later l) (first-kept x s _ _ (late_is l ∙ le-leb (n - m) ahead r) (all-kept x s h))

pub ruleset terms = (is-broken, term-free, term-past, term-early, term-late, term-kept)

-- ---- the whole field

module _ (x : Ruling) (n : Result ℕ Refusal) (long here early : Bool) (ahead today : ℕ) (s : List ℕ) (t : Spells n long s) where
  pub due-broke : (m : Refusal) → n ≡ Err m → x ≡ Err (broken 4 40 0 0) → x ≡ ruling (first_broken (due_rules long here early ahead today) s)
  due-broke m e h = first-broke x s (rule 4 40 (is_day long)) _ (unformed (is_day long s) _ (sym (ap told e) ∙ t)) h

  module _ (d : ℕ) (e : n ≡ Ok d) (k : Bool) (r : k ≡ real_day d) where
    is-day : is_day long s ≡ true
    is-day = formed (is_day long s) _ (sym (ap told e) ∙ t)

    day-spelled : day_spelled long s ≡ d
    day-spelled = worth (is_day long s) _ (sym (ap told e) ∙ t)

    real-is : is_real long s ≡ k
    unfolding is_real
    real-is = ap real_day day-spelled ∙ sym r

    pub due-unreal : k ≡ false → x ≡ Err (broken 11 110 20000101 20991231) → x ≡ ruling (first_broken (due_rules long here early ahead today) s)
    due-unreal y h = first-kept x s _ _ is-day (first-broke x s (within 11 110 20000101 20991231 (is_real long)) _ (real-is ∙ y) h)

    pub due-term : k ≡ true → ((l : Bool) (z : List ℕ) → day_spelled l z ≡ d → x ≡ ruling (first_broken (within 11 111 (first_day early today) (last_day ahead) (not_early l here early today) ∷ within 11 112 (first_day early today) (last_day ahead) (not_late l here ahead today) ∷ []) z))
        → x ≡ ruling (first_broken (due_rules long here early ahead today) s)
    due-term y h = first-kept x s _ _ is-day (first-kept x s (within 11 110 20000101 20991231 (is_real long)) _ (real-is ∙ y) (h long s day-spelled))

pub ruleset dues = (is-broken, due-broke, due-unreal, due-term)
